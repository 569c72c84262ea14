use Rattle.std.proofs.Common.{refl}
use Rattle.evaluation.proofs.fact.runs_out_of_depth.Goals as goal

pub returns : goal.returns
returns c = refl
