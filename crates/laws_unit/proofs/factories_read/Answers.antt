use Rattle.laws_unit.proofs.Factories.{factories_at}
use Rattle.laws_unit.proofs.factories_read.Goals as goal

pub returns : goal.returns
returns c = factories_at
