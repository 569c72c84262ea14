use Rattle.evaluation.proofs.Found.{members_are_first}
use Rattle.evaluation.proofs.law.members_are_first.Goals as goal

pub returns : goal.returns
returns c = members_are_first
