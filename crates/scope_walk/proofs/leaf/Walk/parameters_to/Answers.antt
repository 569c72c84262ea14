use Rattle.std.proofs.Common.{rules}
use Rattle.scope_walk.proofs.leaf.Walk.parameters_to.Goals as goal

pub returns : goal.returns
returns c = rw (← c.body_last.ensures) (search rules)
