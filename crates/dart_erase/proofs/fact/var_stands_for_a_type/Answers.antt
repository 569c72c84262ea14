use Rattle.dart_erase.proofs.Facts.{var_put, var_once, const_kept}
use Rattle.dart_erase.proofs.fact.var_stands_for_a_type.Goals as goal

pub returns-clause-typed : goal.returns-clause-typed
returns-clause-typed c = var_put

pub returns-clause-final_typed : goal.returns-clause-final_typed
returns-clause-final_typed c = var_once

pub returns-clause-const_typed : goal.returns-clause-const_typed
returns-clause-const_typed c = const_kept
