use Rattle.laws_block.proofs.Depths.{holders_at}
use Rattle.laws_block.proofs.holders_read.Goals as goal

pub returns : goal.returns
returns c = holders_at
