use Rattle.std.proofs.Common.{◌≡◌, drop}
use Rattle.translation.specs.ClassBodies as b
use Rattle.lower_body.specs.Views.{member_trees}
use Rattle.lower_body.proofs.class.has_constructor.Given as goal

abbrev pub invariant-loop-one : goal.invariant-loop-one
invariant-loop-one l = b.has_constructor (member_trees (drop l.one-index l.all.items)) ≡ b.has_constructor (member_trees l.all.items)
