use Rattle.dart_run.proofs.OneRun.{run_is_one}
use Rattle.dart_run.proofs.law.run_is_one.Goals as goal

pub returns : goal.returns
returns c = run_is_one
