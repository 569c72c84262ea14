use Rattle.machine_frame.specs.Outside.{setting_of}
use Rattle.machine_call.proofs.Pushed.{comes_to}
use Rattle.machine_call.proofs.Operand.{does_alone}
use Rattle.evaluation.specs.Invocation.{send}
use Rattle.machine_call.proofs.sends.equal_by_call.Goals as goal

pub returns-clause-meaning : goal.returns-clause-meaning
returns-clause-meaning c =
    comes_to c.args.a c.send.new.run c.send.result _ _ (does_alone c.args.a c.args.run.now c.push_operand.new.run c.args.second c.last_operand-passed.result (λ g w. send w c.args.at (setting_of c.args.a).known.equals c.args.first g) c.in_ok-push_operand.ensures.pushed c.in_ok-push_operand.ensures.stays c.last_operand-passed.ensures.names c.last_operand-passed.ensures.rest.0 c.last_operand-passed.ensures.rest.1) c.send.ensures.meaning
