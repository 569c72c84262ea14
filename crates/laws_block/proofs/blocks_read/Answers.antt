use Rattle.laws_block.proofs.Depths.{blocks_at}
use Rattle.laws_block.proofs.blocks_read.Goals as goal

pub returns : goal.returns
returns c = blocks_at
