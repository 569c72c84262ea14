use Rattle.core_program.specs.View as v
use Rattle.machine_form.proofs.Entered.{comes_to}
use Rattle.machine_form.proofs.Functions.{function_goes}
use Rattle.machine_form.proofs.operations.declare_function.Goals as goal

pub returns-in-Some-clause-meaning : goal.returns-in-Some-clause-meaning
returns-in-Some-clause-meaning c =
    let made = c.in_ok-declare in
    comes_to c.args.a c.wait_operand.new.run c.wait_operand.result _ _
    (function_goes c.args.a c.args.run.now c.args.at c.declare.new.run c.args.var (v.core c.args.operand.now) made.field-0 c.in-Some.field-0 c.in-Some.is made.ensures.declared made.ensures.beside) c.wait_operand.ensures.meaning
