use Rattle.laws_unit.proofs.Members.{member_kinds_at}
use Rattle.laws_unit.proofs.member_kinds_read.Goals as goal

pub returns : goal.returns
returns c = member_kinds_at
