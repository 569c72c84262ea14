use Rattle.std.proofs.Common.{refl}
use Rattle.evaluation.proofs.fact.takes_named_arguments.Goals as goal

pub returns : goal.returns
returns c = refl
