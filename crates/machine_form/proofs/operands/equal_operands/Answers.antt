use Rattle.evaluation.specs.Invocation as call
use Rattle.machine_loop.proofs.Operated.{answered_at_once}
use Rattle.machine_form.proofs.operands.equal_operands.Goals as goal

pub returns-in-Some-clause-meaning : goal.returns-in-Some-clause-meaning
returns-in-Some-clause-meaning c =
    answered_at_once c.args.a c.args.run.now c.in-Some.left c.in-Some.value (λ w. call.equal w c.args.at c.args.first c.args.second)
    (c.in-Some.ensures.value c.args.at)
