use Rattle.laws_translation.proofs.Whole.{erased_core}
use Rattle.laws_translation.proofs.law.erased_core.Goals as goal

pub returns : goal.returns
returns c = erased_core
