use Rattle.scope_walk.specs.Walk.{numbering}
use Rattle.scope_walk.proofs.leaf.Walk.number.Goals as goal

pub returns : goal.returns
unfolding numbering
returns c = c.number_of.ensures
