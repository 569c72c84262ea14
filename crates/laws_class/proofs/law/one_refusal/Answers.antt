use Rattle.laws_class.proofs.Faults.{fault_one}
use Rattle.laws_class.proofs.law.one_refusal.Goals as goal

pub returns : goal.returns
returns c = fault_one
