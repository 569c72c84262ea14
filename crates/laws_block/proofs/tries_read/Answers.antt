use Rattle.laws_block.proofs.Depths.{tries_at}
use Rattle.laws_block.proofs.tries_read.Goals as goal

pub returns : goal.returns
returns c = tries_at
