use Rattle.evaluation.proofs.Agreed.{checks_agree}
use Rattle.evaluation.proofs.law.checks_agree.Goals as goal

pub returns : goal.returns
returns c = checks_agree
