use Rattle.translation.proofs.Facts.{bounds_ask_for_the_type}
use Rattle.translation.proofs.fact.bounds_ask_for_the_type.Goals as goal

pub returns : goal.returns
returns c = bounds_ask_for_the_type
