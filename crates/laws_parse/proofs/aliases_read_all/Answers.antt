use Rattle.laws_parse.proofs.Declarations.{aliases_read}
use Rattle.laws_parse.proofs.aliases_read_all.Goals as goal

pub returns : goal.returns
returns c = aliases_read
