use Rattle.std.proofs.Common.{refl}
use Rattle.evaluation.proofs.fact.passes_in_production.Goals as goal

pub returns : goal.returns
returns c = refl
