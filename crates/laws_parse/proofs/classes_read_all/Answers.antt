use Rattle.laws_parse.proofs.Declarations.{classes_read}
use Rattle.laws_parse.proofs.classes_read_all.Goals as goal

pub returns : goal.returns
returns c = classes_read
