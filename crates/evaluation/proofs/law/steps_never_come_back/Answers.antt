use Rattle.evaluation.proofs.Loops.{steps_never_come_back}
use Rattle.evaluation.proofs.law.steps_never_come_back.Goals as goal

pub returns : goal.returns
returns c = steps_never_come_back
