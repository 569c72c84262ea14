use Rattle.laws_unit.proofs.Directives.{directives_at}
use Rattle.laws_unit.proofs.directives_read.Goals as goal

pub returns : goal.returns
returns c = directives_at
