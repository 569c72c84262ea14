use Rattle.laws_choice.proofs.aliases_apart.Goals as goal
use Rattle.laws_choice.proofs.Aliases.{aliases_apart_at}

pub returns : goal.returns
returns c = aliases_apart_at
