use Rattle.std.proofs.Common.{refl}
use Rattle.evaluation.proofs.fact.ends_uncaught.Goals as goal

pub returns : goal.returns
returns c = refl
