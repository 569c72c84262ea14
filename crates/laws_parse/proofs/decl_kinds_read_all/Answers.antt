use Rattle.laws_parse.proofs.Declarations.{decl_kinds_read}
use Rattle.laws_parse.proofs.decl_kinds_read_all.Goals as goal

pub returns : goal.returns
returns c = decl_kinds_read
