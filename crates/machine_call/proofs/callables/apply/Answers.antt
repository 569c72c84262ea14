use Rattle.machine_frame.specs.Frames.{given_of}
use Rattle.machine_call.proofs.Pushed.{comes_to, apply_as}
use Rattle.machine_call.specs.Invocable.{callable_as}
use Rattle.machine_call.proofs.callables.apply.Goals as goal

pub returns-clause-meaning : goal.returns-clause-meaning
returns-clause-meaning c =
    comes_to c.args.a c.applied.new.run c.applied.result _ _ (apply_as c.args.a c.args.run.now c.args.at c.args.passed.count c.args.callee (given_of c.args.passed c.args.run.now.operands.items) (callable_as c.as_invocable-found.result) c.as_invocable-found.ensures) c.applied.ensures.meaning
