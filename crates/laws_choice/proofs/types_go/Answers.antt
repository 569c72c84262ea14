use Rattle.laws_choice.proofs.types_go.Goals as goal
use Rattle.laws_choice.proofs.TypesGo.{types_go_at}

pub returns : goal.returns
returns c = types_go_at
