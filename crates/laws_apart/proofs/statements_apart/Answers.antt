use Rattle.laws_apart.proofs.statements_apart.Goals as goal
use Rattle.laws_apart.proofs.Apart.{apart_at}

pub returns : goal.returns
returns c = apart_at
