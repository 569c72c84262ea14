use Rattle.std.proofs.Common.{map}
use Rattle.dart_erase.specs.UnitErased as unit_erased
use Rattle.dart_tree.specs.UnitView as unit_view
use Rattle.dart_node.proofs.Copies.{Done}
use Rattle.dart_erase.proofs.declaration.erase_decls.Given as goal

abbrev pub invariant-loop-one : goal.invariant-loop-one
invariant-loop-one l = Done (map unit_view.decl) (λ xs. map unit_erased.decl (map unit_view.decl xs)) l.found.items l.one-index l.all.items
