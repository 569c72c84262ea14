use Rattle.std.proofs.Common.{append_assoc, rules}
use Rattle.scope_walk.proofs.leaf.Walk.class.Goals as goal

pub returns : goal.returns
returns c = rw (← c.class_last.ensures) (search (rules, append_assoc))
