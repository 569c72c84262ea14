use Rattle.std.proofs.Common.{refl}
use Rattle.evaluation.proofs.fact.turns_have_variables.Goals as goal

pub returns : goal.returns
returns c = refl
