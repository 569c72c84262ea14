use Rattle.syntax_measures.proofs.Laws as laws
use Rattle.syntax_measures.proofs.heights.types_no_deeper.Goals as goal

pub returns : goal.returns
returns c = laws.types_no_deeper
