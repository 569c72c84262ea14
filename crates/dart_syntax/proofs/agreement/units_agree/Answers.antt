use Rattle.dart_syntax.proofs.AgreeingUnits as units
use Rattle.dart_syntax.proofs.agreement.units_agree.Goals as goal

pub returns : goal.returns
returns c = units.units_agree
