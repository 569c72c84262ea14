use Rattle.laws_unit.proofs.Aliases.{aliases_at}
use Rattle.laws_unit.proofs.aliases_read.Goals as goal

pub returns : goal.returns
returns c = aliases_at
