use Rattle.laws_parse.proofs.Parts.{directives_read}
use Rattle.laws_parse.proofs.directives_read_all.Goals as goal

pub returns : goal.returns
returns c = directives_read
