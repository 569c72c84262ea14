use Rattle.dart_execute.proofs.Once as once
use Rattle.dart_execute.proofs.law.one_execution.Goals as goal

pub returns : goal.returns
returns c = once.one_execution
