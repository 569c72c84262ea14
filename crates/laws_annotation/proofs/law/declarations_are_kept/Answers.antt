use Rattle.laws_annotation.proofs.UnitDeclares.{unit_same}
use Rattle.laws_annotation.proofs.law.declarations_are_kept.Goals as goal

pub returns : goal.returns
returns c = unit_same
