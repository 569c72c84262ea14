use Rattle.laws_expr.proofs.Stages.{productions_at}
use Rattle.laws_expr.proofs.productions_read.Goals as goal

pub returns : goal.returns
returns c = productions_at
