use Rattle.laws_unit.proofs.Answered.{answered_at}
use Rattle.laws_unit.proofs.units_answered.Goals as goal

pub returns : goal.returns
returns c = answered_at
