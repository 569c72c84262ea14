use Rattle.laws_unit.proofs.Classes.{classes_at}
use Rattle.laws_unit.proofs.classes_read.Goals as goal

pub returns : goal.returns
returns c = classes_at
