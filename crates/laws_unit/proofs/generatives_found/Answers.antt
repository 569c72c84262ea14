use Rattle.laws_unit.proofs.Generatives.{generatives_at}
use Rattle.laws_unit.proofs.generatives_found.Goals as goal

pub returns : goal.returns
returns c = generatives_at
