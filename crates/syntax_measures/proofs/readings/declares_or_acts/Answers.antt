use Rattle.syntax_measures.proofs.DeclaresOrActs as statements
use Rattle.syntax_measures.proofs.readings.declares_or_acts.Goals as goal

pub returns : goal.returns
returns c = statements.declares_or_acts
