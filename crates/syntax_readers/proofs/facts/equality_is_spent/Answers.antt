use Rattle.syntax_readers.proofs.Found.{equality_is_spent}
use Rattle.syntax_readers.proofs.facts.equality_is_spent.Goals as goal

pub returns : goal.returns
returns c = equality_is_spent
