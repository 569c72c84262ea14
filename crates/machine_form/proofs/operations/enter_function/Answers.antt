use Rattle.core_program.specs.View as v
use Rattle.machine_form.proofs.Entered.{comes_to}
use Rattle.machine_form.proofs.Functions.{operand_goes}
use Rattle.machine_form.proofs.operations.enter_function.Goals as goal

pub returns-in-Var-clause-meaning : goal.returns-in-Var-clause-meaning
returns-in-Var-clause-meaning c =
    comes_to c.args.a c.declare_function.new.run c.declare_function.result _ _ (operand_goes c.args.a c.args.run.now c.args.at c.args.one _ (v.core c.args.operand.now) c.in-Var.is) c.declare_function.ensures.meaning

pub returns-in-Write-clause-meaning : goal.returns-in-Write-clause-meaning
returns-in-Write-clause-meaning c =
    comes_to c.args.a c.wait_operand.new.run c.wait_operand.result _ _ (operand_goes c.args.a c.args.run.now c.args.at c.args.one _ (v.core c.args.operand.now) c.in-Write.is) c.wait_operand.ensures.meaning

pub returns-in-StaticWrite-clause-meaning : goal.returns-in-StaticWrite-clause-meaning
returns-in-StaticWrite-clause-meaning c =
    comes_to c.args.a c.wait_operand-in-StaticWrite.new.run c.wait_operand-in-StaticWrite.result _ _ (operand_goes c.args.a c.args.run.now c.args.at c.args.one _ (v.core c.args.operand.now) c.in-StaticWrite.is) c.wait_operand-in-StaticWrite.ensures.meaning

pub returns-in-FieldWrite-clause-meaning : goal.returns-in-FieldWrite-clause-meaning
returns-in-FieldWrite-clause-meaning c =
    comes_to c.args.a c.wait_operand-in-FieldWrite.new.run c.wait_operand-in-FieldWrite.result _ _ (operand_goes c.args.a c.args.run.now c.args.at c.args.one _ (v.core c.args.operand.now) c.in-FieldWrite.is) c.wait_operand-in-FieldWrite.ensures.meaning

pub returns-in-Get-clause-meaning : goal.returns-in-Get-clause-meaning
returns-in-Get-clause-meaning c =
    comes_to c.args.a c.wait_operand-in-Get.new.run c.wait_operand-in-Get.result _ _ (operand_goes c.args.a c.args.run.now c.args.at c.args.one _ (v.core c.args.operand.now) c.in-Get.is) c.wait_operand-in-Get.ensures.meaning

pub returns-in-Check-clause-meaning : goal.returns-in-Check-clause-meaning
returns-in-Check-clause-meaning c =
    comes_to c.args.a c.wait_operand-in-Check.new.run c.wait_operand-in-Check.result _ _ (operand_goes c.args.a c.args.run.now c.args.at c.args.one _ (v.core c.args.operand.now) c.in-Check.is) c.wait_operand-in-Check.ensures.meaning

pub returns-in-Throw-clause-meaning : goal.returns-in-Throw-clause-meaning
returns-in-Throw-clause-meaning c =
    comes_to c.args.a c.wait_operand-in-Throw.new.run c.wait_operand-in-Throw.result _ _ (operand_goes c.args.a c.args.run.now c.args.at c.args.one _ (v.core c.args.operand.now) c.in-Throw.is) c.wait_operand-in-Throw.ensures.meaning
