use Rattle.std.proofs.Common.{refl}
use Rattle.evaluation.proofs.fact.throws_on_cycle.Goals as goal

pub returns : goal.returns
returns c = refl
