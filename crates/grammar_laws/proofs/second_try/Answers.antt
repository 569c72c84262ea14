use Rattle.grammar_laws.proofs.Statements.{second_try_law}
use Rattle.grammar_laws.proofs.second_try.Goals as goal

pub returns : goal.returns
returns g c = second_try_law _ _
