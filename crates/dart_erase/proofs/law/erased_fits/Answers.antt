use Rattle.dart_erase.proofs.Fitting.{binds_as_before, target_as_before}
use Rattle.dart_erase.proofs.law.erased_fits.Goals as goal

pub returns-clause-level : goal.returns-clause-level
returns-clause-level c = binds_as_before

pub returns-clause-target : goal.returns-clause-target
returns-clause-target c = target_as_before
