use Rattle.laws_parse.proofs.Members.{parts_read_at}
use Rattle.laws_parse.proofs.parts_read.Goals as goal

pub returns : goal.returns
returns c = parts_read_at
