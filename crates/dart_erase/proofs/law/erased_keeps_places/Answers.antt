use Rattle.dart_erase.proofs.Thinning.{thin_unit}
use Rattle.dart_erase.proofs.law.erased_keeps_places.Goals as goal

pub returns : goal.returns
returns c = thin_unit
