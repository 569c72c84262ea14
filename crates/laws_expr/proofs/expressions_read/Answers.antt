use Rattle.laws_expr.proofs.Recursion.{expressions_at}
use Rattle.laws_expr.proofs.expressions_read.Goals as goal

pub returns : goal.returns
returns c = expressions_at
