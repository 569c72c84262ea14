use Rattle.laws_parse.proofs.Parts.{heads_read}
use Rattle.laws_parse.proofs.heads_read_all.Goals as goal

pub returns : goal.returns
returns c = heads_read
