use Rattle.std.proofs.Common.{refl}
use Rattle.evaluation.proofs.fact.catches_and_goes_on.Goals as goal

pub returns : goal.returns
returns c = refl
