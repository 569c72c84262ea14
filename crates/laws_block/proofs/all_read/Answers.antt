use Rattle.laws_block.proofs.Recursion.{all_at}
use Rattle.laws_block.proofs.all_read.Goals as goal

pub returns : goal.returns
returns c = all_at
