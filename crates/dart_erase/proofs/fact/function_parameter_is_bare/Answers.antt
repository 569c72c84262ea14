use Rattle.dart_erase.proofs.Facts.{function_parameter_bare}
use Rattle.dart_erase.proofs.fact.function_parameter_is_bare.Goals as goal

pub returns : goal.returns
returns c = function_parameter_bare
