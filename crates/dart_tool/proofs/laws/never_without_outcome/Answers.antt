use Rattle.dart_tool.proofs.Outcomes.{some_outcome}
use Rattle.dart_tool.proofs.laws.never_without_outcome.Goals as goal

pub returns : goal.returns
returns c = some_outcome
