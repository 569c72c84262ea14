use Rattle.std.proofs.Common.{sym, ◌∙◌}
use Rattle.core_program.proofs.Views.{view_leaf, view_type_literal, view_unary, view_binary, view_let, view_block, view_if, view_is, view_as, view_loop, view_return, view_try, attempt_out, view_switch, view_labelled}
use Rattle.machine_form.proofs.Done.{row_done, job_done, new_done, list_done}
use Rattle.machine_form.proofs.Entered.{comes_to}
use Rattle.machine_form.proofs.rows.finish.Goals as goal

pub returns-in-Leaf-clause-meaning : goal.returns-in-Leaf-clause-meaning
returns-in-Leaf-clause-meaning c =
    c.null_of_call.ensures.meaning
    ∙ row_done c.args.a c.args.run.now c.args.count c.args.one.now _ _ (sym c.in-Leaf.is) (view_leaf c.in-Leaf.field-0)

pub returns-in-TypeLiteral-clause-meaning : goal.returns-in-TypeLiteral-clause-meaning
returns-in-TypeLiteral-clause-meaning c =
    c.null_of_call-in-TypeLiteral.ensures.meaning
    ∙ row_done c.args.a c.args.run.now c.args.count c.args.one.now _ _ (sym c.in-TypeLiteral.is) (view_type_literal c.in-TypeLiteral.field-0)

pub returns-in-Unary-clause-meaning : goal.returns-in-Unary-clause-meaning
returns-in-Unary-clause-meaning c =
    c.null_of_call-in-Unary.ensures.meaning
    ∙ row_done c.args.a c.args.run.now c.args.count c.args.one.now _ _ (sym c.in-Unary.is) (view_unary c.in-Unary.field-0 c.in-Unary.field-1)

pub returns-in-Binary-clause-meaning : goal.returns-in-Binary-clause-meaning
returns-in-Binary-clause-meaning c =
    c.null_of_call-in-Binary.ensures.meaning
    ∙ row_done c.args.a c.args.run.now c.args.count c.args.one.now _ _ (sym c.in-Binary.is) (view_binary c.in-Binary.field-0 c.in-Binary.field-1 c.in-Binary.field-2)

pub returns-in-Let-clause-meaning : goal.returns-in-Let-clause-meaning
returns-in-Let-clause-meaning c =
    c.null_of_call-in-Let.ensures.meaning
    ∙ row_done c.args.a c.args.run.now c.args.count c.args.one.now _ _ (sym c.in-Let.is) (view_let c.in-Let.var c.in-Let.value c.in-Let.body)

pub returns-in-Block-clause-meaning : goal.returns-in-Block-clause-meaning
returns-in-Block-clause-meaning c =
    c.null_of_call-in-Block.ensures.meaning
    ∙ row_done c.args.a c.args.run.now c.args.count c.args.one.now _ _ (sym c.in-Block.is) (view_block c.in-Block.field-0)

pub returns-in-If-clause-meaning : goal.returns-in-If-clause-meaning
returns-in-If-clause-meaning c =
    c.null_of_call-in-If.ensures.meaning
    ∙ row_done c.args.a c.args.run.now c.args.count c.args.one.now _ _ (sym c.in-If.is) (view_if c.in-If.condition c.in-If.first c.in-If.second)

pub returns-in-Is-clause-meaning : goal.returns-in-Is-clause-meaning
returns-in-Is-clause-meaning c =
    c.null_of_call-in-Is.ensures.meaning
    ∙ row_done c.args.a c.args.run.now c.args.count c.args.one.now _ _ (sym c.in-Is.is) (view_is c.in-Is.field-0 c.in-Is.field-1)

pub returns-in-As-clause-meaning : goal.returns-in-As-clause-meaning
returns-in-As-clause-meaning c =
    c.null_of_call-in-As.ensures.meaning
    ∙ row_done c.args.a c.args.run.now c.args.count c.args.one.now _ _ (sym c.in-As.is) (view_as c.in-As.field-0 c.in-As.field-1)

pub returns-in-Loop-clause-meaning : goal.returns-in-Loop-clause-meaning
returns-in-Loop-clause-meaning c =
    c.null_of_call-in-Loop.ensures.meaning
    ∙ row_done c.args.a c.args.run.now c.args.count c.args.one.now _ _ (sym c.in-Loop.is) (view_loop c.in-Loop.target c.in-Loop.copies c.in-Loop.condition c.in-Loop.update c.in-Loop.body)

pub returns-in-Return-clause-meaning : goal.returns-in-Return-clause-meaning
returns-in-Return-clause-meaning c =
    c.null_of_call-in-Return.ensures.meaning
    ∙ row_done c.args.a c.args.run.now c.args.count c.args.one.now _ _ (sym c.in-Return.is) (view_return c.in-Return.field-0)

pub returns-in-Switch-clause-meaning : goal.returns-in-Switch-clause-meaning
returns-in-Switch-clause-meaning c =
    c.null_of_call-in-Switch.ensures.meaning
    ∙ row_done c.args.a c.args.run.now c.args.count c.args.one.now _ _ (sym c.in-Switch.is) (view_switch c.in-Switch.target c.in-Switch.value c.in-Switch.cases)

pub returns-in-Labelled-clause-meaning : goal.returns-in-Labelled-clause-meaning
returns-in-Labelled-clause-meaning c =
    c.null_of_call-in-Labelled.ensures.meaning
    ∙ row_done c.args.a c.args.run.now c.args.count c.args.one.now _ _ (sym c.in-Labelled.is) (view_labelled c.in-Labelled.field-0 c.in-Labelled.field-1)

pub returns-in-Try-clause-meaning : goal.returns-in-Try-clause-meaning
returns-in-Try-clause-meaning c =
    c.null_of_call-in-Try.ensures.meaning
    ∙ row_done c.args.a c.args.run.now c.args.count c.args.one.now _ _ (sym c.in-Try.is) (view_try c.in-Try.field-0 ∙ attempt_out c.in-Try.field-0.value)

pub returns-in-Row-clause-meaning : goal.returns-in-Row-clause-meaning
returns-in-Row-clause-meaning c =
    let passed = c.passed_by in
    comes_to c.args.a c.finish_job.new.run c.finish_job.result _ _
    (job_done c.args.a c.args.run.now c.args.count c.args.one.now c.in-Row.job c.in-Row.arguments passed.result c.as_slice.result.now c.in-Row.is c.as_slice.ensures.value passed.ensures.names passed.ensures.rest.1) c.finish_job.ensures.meaning

pub returns-in-New-clause-meaning : goal.returns-in-New-clause-meaning
returns-in-New-clause-meaning c =
    let new = c.in-New in
    let passed = c.passed_by-in-New in
    comes_to c.args.a c.create.new.run c.create.result _ _
    (new_done c.args.a c.args.run.now c.args.count c.args.one.now new.class new.constructor new.types new.arguments passed.result c.as_slice-in-New-2.result.now c.as_slice-in-New.result.now new.is c.as_slice-in-New.ensures.value c.as_slice-in-New-2.ensures.value passed.ensures.names passed.ensures.rest.0 passed.ensures.rest.1) c.create.ensures.meaning

pub returns-in-List-clause-meaning : goal.returns-in-List-clause-meaning
returns-in-List-clause-meaning c =
    comes_to c.args.a c.make_list.new.run c.make_list.result _ _
    (list_done c.args.a c.args.run.now c.args.count c.args.one.now c.in-List.types c.in-List.items c.as_slice-in-List.result.now c.in-List.is c.as_slice-in-List.ensures.value) c.make_list.ensures.meaning
