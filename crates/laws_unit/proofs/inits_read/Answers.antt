use Rattle.laws_unit.proofs.Members.{inits_at}
use Rattle.laws_unit.proofs.inits_read.Goals as goal

pub returns : goal.returns
returns c = inits_at
