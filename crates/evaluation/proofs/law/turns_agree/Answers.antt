use Rattle.evaluation.proofs.Agreed.{turns_agree}
use Rattle.evaluation.proofs.law.turns_agree.Goals as goal

pub returns : goal.returns
returns c = turns_agree
