use Rattle.laws_stmt.proofs.Depths.{jumps_at}
use Rattle.laws_stmt.proofs.jumps_read.Goals as goal

pub returns : goal.returns
returns c = jumps_at
