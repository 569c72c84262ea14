use Rattle.std.proofs.Common.{refl}
use Rattle.evaluation.proofs.fact.fails_when_checked.Goals as goal

pub returns : goal.returns
returns c = refl
