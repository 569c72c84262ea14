use Rattle.laws_block.proofs.For.{for_begun}
use Rattle.laws_block.proofs.fors_read.Goals as goal

pub returns : goal.returns
returns c = for_begun
