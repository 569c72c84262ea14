use Rattle.laws_unit.proofs.Units.{units_at}
use Rattle.laws_unit.proofs.units_read.Goals as goal

pub returns : goal.returns
returns c = units_at
