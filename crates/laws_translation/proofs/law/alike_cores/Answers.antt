use Rattle.laws_translation.proofs.Whole.{alike_cores}
use Rattle.laws_translation.proofs.law.alike_cores.Goals as goal

pub returns : goal.returns
returns c = alike_cores
