use Rattle.laws_choice.proofs.callables_apart.Goals as goal
use Rattle.laws_choice.proofs.CallablesApart.{callables_apart_at}

pub returns : goal.returns
returns c = callables_apart_at
