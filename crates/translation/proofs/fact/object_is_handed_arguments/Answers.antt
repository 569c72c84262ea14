use Rattle.translation.proofs.Facts.{object_is_handed_arguments}
use Rattle.translation.proofs.fact.object_is_handed_arguments.Goals as goal

pub returns : goal.returns
returns c = object_is_handed_arguments
