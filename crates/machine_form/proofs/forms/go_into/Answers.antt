use Rattle.core_program.specs.declared.form.Form.TheViews.{out-Core}
use Rattle.core_program.proofs.Views.{core_out}
use Rattle.machine_form.proofs.Acts.{acts_leaf, acts_unary, acts_binary, acts_row, acts_block, acts_if, acts_return}
use Rattle.machine_form.proofs.Entered.{comes_to}
use Rattle.machine_form.proofs.forms.go_into.Goals as goal

pub returns-in-Leaf-clause-meaning : goal.returns-in-Leaf-clause-meaning
returns-in-Leaf-clause-meaning c =
    comes_to c.args.a c.enter_leaf.new.run c.enter_leaf.result _ _ (acts_leaf c.args.a c.args.run.now (out-Core c.args.core.now).place (out-Core c.args.core.now).form c.in-Leaf.leaf c.in-Leaf.is) c.enter_leaf.ensures.meaning

pub returns-in-Unary-clause-meaning : goal.returns-in-Unary-clause-meaning
returns-in-Unary-clause-meaning c =
    comes_to c.args.a c.enter_unary.new.run c.enter_unary.result _ _ (acts_unary c.args.a c.args.run.now (out-Core c.args.core.now).place (out-Core c.args.core.now).form c.in-Unary.one c.in-Unary.operand c.deref.result.now c.in-Unary.is c.deref.ensures) c.enter_unary.ensures.meaning

pub returns-in-Binary-clause-meaning : goal.returns-in-Binary-clause-meaning
returns-in-Binary-clause-meaning c =
    comes_to c.args.a c.enter_binary.new.run c.enter_binary.result _ _ (acts_binary c.args.a c.args.run.now (out-Core c.args.core.now).place (out-Core c.args.core.now).form c.in-Binary.one c.in-Binary.first c.in-Binary.second c.deref-in-Binary.result.now c.deref-in-Binary-2.result.now c.in-Binary.is c.deref-in-Binary.ensures c.deref-in-Binary-2.ensures) c.enter_binary.ensures.meaning

pub returns-in-Row-clause-meaning : goal.returns-in-Row-clause-meaning
returns-in-Row-clause-meaning c =
    comes_to c.args.a c.begin_row.new.run c.begin_row.result _ _ (acts_row c.args.a c.args.run.now (out-Core c.args.core.now).place (out-Core c.args.core.now).form c.args.core.now (core_out c.args.core.now) c.in-Row.field-0 c.in-Row.arguments c.as_slice.result.now c.in-Row.is c.as_slice.ensures.value) c.begin_row.ensures.meaning

pub returns-in-Block-clause-meaning : goal.returns-in-Block-clause-meaning
returns-in-Block-clause-meaning c =
    comes_to c.args.a c.go_on.new.run c.go_on.result _ _ (acts_block c.args.a c.args.run.now (out-Core c.args.core.now).place (out-Core c.args.core.now).form c.in-Block.forms c.as_slice-in-Block.result.now c.in-Block.is c.as_slice-in-Block.ensures.value) c.go_on.ensures.meaning

pub returns-in-If-clause-meaning : goal.returns-in-If-clause-meaning
returns-in-If-clause-meaning c =
    comes_to c.args.a c.enter_if.new.run c.enter_if.result _ _ (acts_if c.args.a c.args.run.now (out-Core c.args.core.now).place (out-Core c.args.core.now).form c.in-If.condition c.in-If.first c.in-If.second c.deref-in-If.result.now c.in-If.is c.deref-in-If.ensures) c.enter_if.ensures.meaning

pub returns-in-Return-clause-meaning : goal.returns-in-Return-clause-meaning
returns-in-Return-clause-meaning c =
    comes_to c.args.a c.return_of.new.run c.return_of.result _ _ (acts_return c.args.a c.args.run.now (out-Core c.args.core.now).place (out-Core c.args.core.now).form c.in-Return.value c.in-Return.is) c.return_of.ensures.meaning
