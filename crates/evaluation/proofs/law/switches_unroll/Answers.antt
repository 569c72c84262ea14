use Rattle.evaluation.proofs.Rounds.{switches_unroll}
use Rattle.evaluation.proofs.law.switches_unroll.Goals as goal

pub returns : goal.returns
returns c = switches_unroll
