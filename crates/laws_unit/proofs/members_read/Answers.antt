use Rattle.laws_unit.proofs.WholeMembers.{members_at}
use Rattle.laws_unit.proofs.members_read.Goals as goal

pub returns : goal.returns
returns c = members_at
