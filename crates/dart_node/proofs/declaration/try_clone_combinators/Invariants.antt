use Rattle.std.proofs.Common.{map}
use Rattle.dart_tree.specs.UnitView as unit_view
use Rattle.dart_node.proofs.Copies.{Done}
use Rattle.dart_node.proofs.declaration.try_clone_combinators.Given as goal

abbrev pub invariant-loop-one : goal.invariant-loop-one
invariant-loop-one l = Done (map unit_view.combinator) (map unit_view.combinator) l.found.items l.one-index l.all.items
