use Rattle.evaluation.proofs.Unread.{annotations_are_not_read}
use Rattle.evaluation.proofs.law.annotations_are_not_read.Goals as goal

pub returns : goal.returns
returns c = annotations_are_not_read
