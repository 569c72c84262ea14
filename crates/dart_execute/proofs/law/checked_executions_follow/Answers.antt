use Rattle.dart_execute.proofs.Checked.{checked_executions_follow}
use Rattle.dart_execute.proofs.law.checked_executions_follow.Goals as goal

pub returns : goal.returns
returns c = checked_executions_follow
