use Rattle.laws_unit.proofs.Depths.{heads_at}
use Rattle.laws_unit.proofs.heads_read.Goals as goal

pub returns : goal.returns
returns c = heads_at
