use Rattle.laws_translation.proofs.Whole.{bare_core}
use Rattle.laws_translation.proofs.law.bare_core.Goals as goal

pub returns : goal.returns
returns c = bare_core
