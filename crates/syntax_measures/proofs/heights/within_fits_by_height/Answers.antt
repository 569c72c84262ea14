use Rattle.syntax_measures.proofs.Laws as laws
use Rattle.syntax_measures.proofs.heights.within_fits_by_height.Goals as goal

pub returns : goal.returns
returns c = laws.within_fits_by_height
