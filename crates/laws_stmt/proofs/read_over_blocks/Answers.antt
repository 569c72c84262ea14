use Rattle.laws_stmt.proofs.Recursion.{read_over_blocks}
use Rattle.laws_stmt.proofs.read_over_blocks.Goals as goal

pub returns : goal.returns
returns c = read_over_blocks
