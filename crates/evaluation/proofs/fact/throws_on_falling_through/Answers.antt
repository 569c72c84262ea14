use Rattle.std.proofs.Common.{refl}
use Rattle.evaluation.proofs.fact.throws_on_falling_through.Goals as goal

pub returns : goal.returns
returns c = refl
