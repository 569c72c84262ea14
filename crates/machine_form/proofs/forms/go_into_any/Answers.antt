use Rattle.core_program.specs.declared.form.Form.TheViews.{out-Core}
use Rattle.core_program.proofs.Views.{core_out}
use Rattle.machine_form.proofs.Acts.{acts_leaf, acts_unary, acts_binary, acts_row, acts_let, acts_block, acts_if, acts_new, acts_list, acts_return, acts_try, acts_type, acts_is, acts_as, acts_switch}
use Rattle.machine_form.proofs.Entered.{comes_to}
use Rattle.machine_form.proofs.forms.go_into_any.Goals as goal

pub returns-in-Leaf-clause-meaning : goal.returns-in-Leaf-clause-meaning
returns-in-Leaf-clause-meaning c =
    comes_to c.args.a c.enter_leaf.new.run c.enter_leaf.result _ _ (acts_leaf c.args.a c.args.run.now (out-Core c.args.core.now).place (out-Core c.args.core.now).form c.in-Leaf.leaf c.in-Leaf.is) c.enter_leaf.ensures.meaning

pub returns-in-Unary-clause-meaning : goal.returns-in-Unary-clause-meaning
returns-in-Unary-clause-meaning c =
    comes_to c.args.a c.enter_unary.new.run c.enter_unary.result _ _ (acts_unary c.args.a c.args.run.now (out-Core c.args.core.now).place (out-Core c.args.core.now).form c.in-Unary.one c.in-Unary.operand c.deref.result.now c.in-Unary.is c.deref.ensures) c.enter_unary.ensures.meaning

pub returns-in-Binary-clause-meaning : goal.returns-in-Binary-clause-meaning
returns-in-Binary-clause-meaning c =
    comes_to c.args.a c.enter_binary.new.run c.enter_binary.result _ _ (acts_binary c.args.a c.args.run.now (out-Core c.args.core.now).place (out-Core c.args.core.now).form c.in-Binary.one c.in-Binary.first c.in-Binary.second c.deref-in-Binary.result.now c.deref-in-Binary-2.result.now c.in-Binary.is c.deref-in-Binary.ensures c.deref-in-Binary-2.ensures) c.enter_binary.ensures.meaning

pub returns-in-Row-clause-meaning : goal.returns-in-Row-clause-meaning
returns-in-Row-clause-meaning c =
    comes_to c.args.a c.begin_row.new.run c.begin_row.result _ _ (acts_row c.args.a c.args.run.now (out-Core c.args.core.now).place (out-Core c.args.core.now).form c.args.core.now (core_out c.args.core.now) c.in-Row.field-0 c.in-Row.arguments c.as_slice.result.now c.in-Row.is c.as_slice.ensures.value) c.begin_row.ensures.meaning

pub returns-in-Let-clause-meaning : goal.returns-in-Let-clause-meaning
returns-in-Let-clause-meaning c =
    comes_to c.args.a c.enter_let.new.run c.enter_let.result _ _ (acts_let c.args.a c.args.run.now (out-Core c.args.core.now).place (out-Core c.args.core.now).form c.in-Let.var c.in-Let.value c.in-Let.body c.deref-in-Let.result.now c.deref-in-Let-2.result.now c.in-Let.is c.deref-in-Let.ensures c.deref-in-Let-2.ensures) c.enter_let.ensures.meaning

pub returns-in-Block-clause-meaning : goal.returns-in-Block-clause-meaning
returns-in-Block-clause-meaning c =
    comes_to c.args.a c.go_on.new.run c.go_on.result _ _ (acts_block c.args.a c.args.run.now (out-Core c.args.core.now).place (out-Core c.args.core.now).form c.in-Block.forms c.as_slice-in-Block.result.now c.in-Block.is c.as_slice-in-Block.ensures.value) c.go_on.ensures.meaning

pub returns-in-If-clause-meaning : goal.returns-in-If-clause-meaning
returns-in-If-clause-meaning c =
    comes_to c.args.a c.enter_if.new.run c.enter_if.result _ _ (acts_if c.args.a c.args.run.now (out-Core c.args.core.now).place (out-Core c.args.core.now).form c.in-If.condition c.in-If.first c.in-If.second c.deref-in-If.result.now c.in-If.is c.deref-in-If.ensures) c.enter_if.ensures.meaning

pub returns-in-New-clause-meaning : goal.returns-in-New-clause-meaning
returns-in-New-clause-meaning c =
    comes_to c.args.a c.begin_row-in-New.new.run c.begin_row-in-New.result _ _ (acts_new c.args.a c.args.run.now (out-Core c.args.core.now).place (out-Core c.args.core.now).form c.args.core.now (core_out c.args.core.now) c.in-New.class c.in-New.constructor c.in-New.types c.in-New.arguments c.as_slice-in-New.result.now c.in-New.is c.as_slice-in-New.ensures.value) c.begin_row-in-New.ensures.meaning

pub returns-in-List-clause-meaning : goal.returns-in-List-clause-meaning
returns-in-List-clause-meaning c =
    comes_to c.args.a c.begin_row-in-List.new.run c.begin_row-in-List.result _ _ (acts_list c.args.a c.args.run.now (out-Core c.args.core.now).place (out-Core c.args.core.now).form c.args.core.now (core_out c.args.core.now) c.in-List.types c.in-List.items c.as_slice-in-List.result.now c.in-List.is c.as_slice-in-List.ensures.value) c.begin_row-in-List.ensures.meaning

pub returns-in-Return-clause-meaning : goal.returns-in-Return-clause-meaning
returns-in-Return-clause-meaning c =
    comes_to c.args.a c.return_of.new.run c.return_of.result _ _ (acts_return c.args.a c.args.run.now (out-Core c.args.core.now).place (out-Core c.args.core.now).form c.in-Return.value c.in-Return.is) c.return_of.ensures.meaning

pub returns-in-Try-clause-meaning : goal.returns-in-Try-clause-meaning
returns-in-Try-clause-meaning c =
    comes_to c.args.a c.enter_try.new.run c.enter_try.result _ _ (acts_try c.args.a c.args.run.now (out-Core c.args.core.now).place (out-Core c.args.core.now).form c.in-Try.attempt c.deref-in-Try.result.now c.in-Try.is c.deref-in-Try.ensures) c.enter_try.ensures.meaning

pub returns-in-TypeLiteral-clause-meaning : goal.returns-in-TypeLiteral-clause-meaning
returns-in-TypeLiteral-clause-meaning c =
    comes_to c.args.a c.type_object.new.run c.type_object.result _ _ (acts_type c.args.a c.args.run.now (out-Core c.args.core.now).place (out-Core c.args.core.now).form c.in-TypeLiteral.of c.in-TypeLiteral.is) c.type_object.ensures.meaning

pub returns-in-Is-clause-meaning : goal.returns-in-Is-clause-meaning
returns-in-Is-clause-meaning c =
    comes_to c.args.a c.enter_is.new.run c.enter_is.result _ _ (acts_is c.args.a c.args.run.now (out-Core c.args.core.now).place (out-Core c.args.core.now).form c.in-Is.operand c.in-Is.of c.deref-in-Is.result.now c.in-Is.is c.deref-in-Is.ensures) c.enter_is.ensures.meaning

pub returns-in-As-clause-meaning : goal.returns-in-As-clause-meaning
returns-in-As-clause-meaning c =
    comes_to c.args.a c.enter_as.new.run c.enter_as.result _ _ (acts_as c.args.a c.args.run.now (out-Core c.args.core.now).place (out-Core c.args.core.now).form c.in-As.operand c.in-As.of c.deref-in-As.result.now c.in-As.is c.deref-in-As.ensures) c.enter_as.ensures.meaning

pub returns-in-Switch-clause-meaning : goal.returns-in-Switch-clause-meaning
returns-in-Switch-clause-meaning c =
    comes_to c.args.a c.enter_switch.new.run c.enter_switch.result _ _ (acts_switch c.args.a c.args.run.now (out-Core c.args.core.now).place (out-Core c.args.core.now).form c.in-Switch.target c.in-Switch.value c.in-Switch.cases c.deref-in-Switch.result.now c.as_slice-in-Switch.result.now c.in-Switch.is c.deref-in-Switch.ensures c.as_slice-in-Switch.ensures.value) c.enter_switch.ensures.meaning
