use Rattle.laws_scope.proofs.Scoped.{one_under}
use Rattle.laws_scope.proofs.law.one_scoping_under_a_table.Goals as goal

pub returns : goal.returns
returns c = one_under
