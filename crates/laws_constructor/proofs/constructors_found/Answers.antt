use Rattle.laws_constructor.proofs.Found.{constructors_at}
use Rattle.laws_constructor.proofs.constructors_found.Goals as goal

pub returns : goal.returns
returns c = constructors_at
