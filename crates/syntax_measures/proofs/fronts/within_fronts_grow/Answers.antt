use Rattle.syntax_measures.proofs.Laws as laws
use Rattle.syntax_measures.proofs.fronts.within_fronts_grow.Goals as goal

pub returns : goal.returns
returns c = laws.within_fronts_grow
