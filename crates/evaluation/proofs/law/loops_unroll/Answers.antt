use Rattle.evaluation.proofs.Loops.{loops_unroll}
use Rattle.evaluation.proofs.law.loops_unroll.Goals as goal

pub returns : goal.returns
returns c = loops_unroll
