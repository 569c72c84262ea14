use Rattle.dart_erase.proofs.Facts.{new_kept}
use Rattle.dart_erase.proofs.fact.new_keeps_its_type.Goals as goal

pub returns : goal.returns
returns c = new_kept
