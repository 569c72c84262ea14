use Rattle.laws_apart.proofs.heads_apart.Goals as goal
use Rattle.laws_apart.proofs.Apart.{heads_apart_at}

pub returns : goal.returns
returns c = heads_apart_at
