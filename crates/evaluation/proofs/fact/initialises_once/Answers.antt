use Rattle.std.proofs.Common.{refl}
use Rattle.evaluation.proofs.fact.initialises_once.Goals as goal

pub returns : goal.returns
returns c = refl
