use Rattle.laws_parse.proofs.Members.{member_kinds_read}
use Rattle.laws_parse.proofs.member_kinds_read_all.Goals as goal

pub returns : goal.returns
returns c = member_kinds_read
