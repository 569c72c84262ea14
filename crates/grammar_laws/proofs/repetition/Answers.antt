use Rattle.grammar_laws.proofs.Statements.{repetition_law}
use Rattle.grammar_laws.proofs.repetition.Goals as goal

pub returns : goal.returns
returns g c = repetition_law _ _
