use Rattle.dart_tool.proofs.CheckedLaws as checked
use Rattle.dart_tool.proofs.laws.checked_outcomes_follow.Goals as goal

pub returns : goal.returns
returns c = checked.checked_outcomes_follow
