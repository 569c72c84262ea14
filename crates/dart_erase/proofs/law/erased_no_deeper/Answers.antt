use Rattle.dart_erase.proofs.Shallower.{shallow_unit}
use Rattle.dart_erase.proofs.law.erased_no_deeper.Goals as goal

pub returns : goal.returns
returns c = shallow_unit
