use Rattle.laws_stmt.proofs.Depths.{parameters_at}
use Rattle.laws_stmt.proofs.parameters_read.Goals as goal

pub returns : goal.returns
returns c = parameters_at
