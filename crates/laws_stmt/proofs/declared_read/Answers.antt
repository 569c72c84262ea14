use Rattle.laws_stmt.proofs.Depths.{declared_at}
use Rattle.laws_stmt.proofs.declared_read.Goals as goal

pub returns : goal.returns
returns c = declared_at
