use Rattle.std.proofs.Common.{map}
use Rattle.dart_erase.specs.UnitErased as unit_erased
use Rattle.dart_tree.specs.UnitView as unit_view
use Rattle.dart_node.proofs.Copies.{Done}
use Rattle.dart_erase.proofs.member.erase_members.Given as goal

abbrev pub invariant-loop-one : goal.invariant-loop-one
invariant-loop-one l = Done (map unit_view.member) (λ xs. map unit_erased.member (map unit_view.member xs)) l.found.items l.one-index l.all.items
