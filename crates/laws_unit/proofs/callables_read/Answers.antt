use Rattle.laws_unit.proofs.Callables.{callables_at}
use Rattle.laws_unit.proofs.callables_read.Goals as goal

pub returns : goal.returns
returns c = callables_at
