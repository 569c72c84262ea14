use Rattle.syntax_measures.proofs.Laws as laws
use Rattle.syntax_measures.proofs.heights.units_fit_by_height.Goals as goal

pub returns : goal.returns
returns c = laws.units_fit_by_height
