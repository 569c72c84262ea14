use Rattle.laws_class.proofs.Faults.{not_both}
use Rattle.laws_class.proofs.law.no_table_of_the_refused.Goals as goal

pub returns : goal.returns
returns c = not_both
