use Rattle.evaluation.proofs.Unread.{production_checks_nothing}
use Rattle.evaluation.proofs.law.production_checks_nothing.Goals as goal

pub returns : goal.returns
returns c = production_checks_nothing
