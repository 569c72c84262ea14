use Rattle.laws_translation.proofs.Again.{read_again}
use Rattle.laws_translation.proofs.law.core_of_erased.Goals as goal

pub returns : goal.returns
returns c = read_again
