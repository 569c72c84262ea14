use Rattle.dart_run.proofs.AlikeRuns.{alike_runs_are_one}
use Rattle.dart_run.proofs.law.alike_runs_are_one.Goals as goal

pub returns : goal.returns
returns c = alike_runs_are_one
