use Rattle.std.proofs.Common.{map}
use Rattle.dart_erase.specs.UnitErased as unit_erased
use Rattle.dart_tree.specs.UnitView as unit_view
use Rattle.dart_node.proofs.Copies.{Done}
use Rattle.dart_erase.proofs.declaration.erase_type_parameter_list.Given as goal

abbrev pub invariant-loop-one : goal.invariant-loop-one
invariant-loop-one l = Done (map unit_view.type_parameter) (λ xs. map unit_erased.type_parameter (map unit_view.type_parameter xs)) l.found.items l.one-index l.all.items
