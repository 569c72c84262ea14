use Rattle.dart_run.proofs.Checked.{checked_runs_follow}
use Rattle.dart_run.proofs.law.checked_runs_follow.Goals as goal

pub returns : goal.returns
returns c = checked_runs_follow
