use Rattle.dart_syntax.proofs.AgreeingTypes.{all_types_agree}
use Rattle.dart_syntax.proofs.agreement.types_agree.Goals as goal

pub returns : goal.returns
returns c = all_types_agree
