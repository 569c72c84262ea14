use Rattle.laws_execution.proofs.Erased.{erased_runs}
use Rattle.laws_execution.proofs.law.erased_runs_are_one.Goals as goal

pub returns : goal.returns
returns c = erased_runs
