use Rattle.laws_unit.proofs.OtherMembers.{others_at}
use Rattle.laws_unit.proofs.other_members_read.Goals as goal

pub returns : goal.returns
returns c = others_at
