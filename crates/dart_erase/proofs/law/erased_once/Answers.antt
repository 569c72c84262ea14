use Rattle.dart_erase.proofs.Twice.{twice_unit}
use Rattle.dart_erase.proofs.law.erased_once.Goals as goal

pub returns : goal.returns
returns c = twice_unit
