use Rattle.std.proofs.Common.{refl}
use Rattle.evaluation.proofs.fact.calls_no_such_method.Goals as goal

pub returns : goal.returns
returns c = refl
