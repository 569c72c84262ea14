use Rattle.syntax_measures.proofs.Laws as laws
use Rattle.syntax_measures.proofs.heights.types_fit_by_height.Goals as goal

pub returns : goal.returns
returns c = laws.types_fit_by_height
