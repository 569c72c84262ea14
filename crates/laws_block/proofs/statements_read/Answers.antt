use Rattle.laws_block.proofs.Whole.{statements_at}
use Rattle.laws_block.proofs.statements_read.Goals as goal

pub returns : goal.returns
returns c = statements_at
