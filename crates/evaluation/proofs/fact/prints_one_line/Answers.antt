use Rattle.std.proofs.Common.{refl}
use Rattle.evaluation.proofs.fact.prints_one_line.Goals as goal

pub returns : goal.returns
returns c = refl
