use Rattle.translation.proofs.Facts.{this_needs_an_instance}
use Rattle.translation.proofs.fact.this_needs_an_instance.Goals as goal

pub returns : goal.returns
returns c = this_needs_an_instance
