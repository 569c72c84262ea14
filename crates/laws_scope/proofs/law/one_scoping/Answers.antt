use Rattle.laws_scope.proofs.Scoped.{one_scoping}
use Rattle.laws_scope.proofs.law.one_scoping.Goals as goal

pub returns : goal.returns
returns c = one_scoping
