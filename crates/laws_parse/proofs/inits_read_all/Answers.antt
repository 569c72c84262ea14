use Rattle.laws_parse.proofs.Members.{inits_read}
use Rattle.laws_parse.proofs.inits_read_all.Goals as goal

pub returns : goal.returns
returns c = inits_read
