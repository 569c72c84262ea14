use Rattle.evaluation.proofs.Rounds.{missing_unrolls}
use Rattle.evaluation.proofs.law.missing_unrolls.Goals as goal

pub returns : goal.returns
returns c = missing_unrolls
