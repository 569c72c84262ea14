use Rattle.syntax_measures.proofs.LikeConstructors.{only_functions_construct, like_ones_construct}
use Rattle.syntax_measures.proofs.readings.functions_like_constructors.Goals as goal

pub returns-clause-only : goal.returns-clause-only
returns-clause-only c = only_functions_construct

pub returns-clause-each : goal.returns-clause-each
returns-clause-each c = like_ones_construct
