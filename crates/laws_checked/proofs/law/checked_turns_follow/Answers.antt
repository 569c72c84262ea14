use Rattle.laws_checked.proofs.Reported.{checked_turns_follow}
use Rattle.laws_checked.proofs.law.checked_turns_follow.Goals as goal

pub returns : goal.returns
returns c = checked_turns_follow
