use Rattle.grammar_laws.proofs.Statements.{followed_law}
use Rattle.grammar_laws.proofs.continuation.Goals as goal

pub returns : goal.returns
returns g c = followed_law _ _ _
