use Rattle.laws_stmt.proofs.Besides.{besides_at}
use Rattle.laws_stmt.proofs.besides_read.Goals as goal

pub returns : goal.returns
returns c = besides_at
