use Rattle.grammar_laws.proofs.Statements.{sequence_law}
use Rattle.grammar_laws.proofs.sequence.Goals as goal

pub returns : goal.returns
returns g c = sequence_law _ _ _
