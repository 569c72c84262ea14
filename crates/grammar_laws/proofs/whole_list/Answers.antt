use Rattle.grammar_laws.proofs.Statements.{whole_list_law}
use Rattle.grammar_laws.proofs.whole_list.Goals as goal

pub returns : goal.returns
returns g c = whole_list_law _ _
