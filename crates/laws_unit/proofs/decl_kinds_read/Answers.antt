use Rattle.laws_unit.proofs.DeclKinds.{decl_kinds_at}
use Rattle.laws_unit.proofs.decl_kinds_read.Goals as goal

pub returns : goal.returns
returns c = decl_kinds_at
