use Rattle.laws_unit.proofs.Mending.{mended_at}
use Rattle.laws_unit.proofs.mended_read.Goals as goal

pub returns : goal.returns
returns c = mended_at
