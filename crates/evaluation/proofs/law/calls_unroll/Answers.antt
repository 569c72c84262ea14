use Rattle.evaluation.proofs.Rounds.{calls_unroll}
use Rattle.evaluation.proofs.law.calls_unroll.Goals as goal

pub returns : goal.returns
returns c = calls_unroll
