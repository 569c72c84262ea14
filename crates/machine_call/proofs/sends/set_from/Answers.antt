use Rattle.machine_call.proofs.Pushed.{comes_to, setter_fitting, setter_missing}
use Rattle.machine_call.proofs.sends.set_from.Goals as goal

pub returns-in-Some-clause-meaning : goal.returns-in-Some-clause-meaning
returns-in-Some-clause-meaning c =
    comes_to c.args.a c.fitting.new.run c.fitting.result _ _ (setter_fitting c.args.a c.args.run.now c.args.at c.push_frame.new.run c.push_operand.new.run c.args.value c.last_operand-passed.result c.args.class c.args.name c.args.this c.in-Some.m c.in_ok-push_frame.ensures.pushed c.in_ok-push_frame.ensures.stays c.in_ok-push_operand.ensures.pushed c.in_ok-push_operand.ensures.stays c.last_operand-passed.ensures.names c.last_operand-passed.ensures.rest.0 c.last_operand-passed.ensures.rest.1 c.in-Some.ensures) c.fitting.ensures.meaning

pub returns-in-None-clause-meaning : goal.returns-in-None-clause-meaning
returns-in-None-clause-meaning c =
    comes_to c.args.a c.missing_from.new.run c.missing_from.result _ _ (setter_missing c.args.a c.args.run.now c.args.at c.push_frame.new.run c.push_operand.new.run c.args.value c.last_operand-passed.result c.args.class c.args.name c.args.this c.in_ok-push_frame.ensures.pushed c.in_ok-push_frame.ensures.stays c.in_ok-push_operand.ensures.pushed c.in_ok-push_operand.ensures.stays c.last_operand-passed.ensures.names c.last_operand-passed.ensures.rest.0 c.last_operand-passed.ensures.rest.1 c.in-None.ensures) c.missing_from.ensures.meaning
