use Rattle.std.proofs.Common.{◌≡◌, map, drop}
use Rattle.dart_tree.specs.UnitView as unit_view
use Rattle.translation.specs.Classes as cl
use Rattle.lower_leaf.specs.Forms.{cores}
use Rattle.lower_leaf.specs.Seen.{seen}
use Rattle.lower_class.specs.Views.{class_around}
use Rattle.lower_class.proofs.Walking.{behind, lists}
use Rattle.lower_class.proofs.value.all_values.Given as goal

abbrev pub invariant-loop-one : goal.invariant-loop-one
invariant-loop-one g l = let a = g.S.Surroundings.around l.outside in
    behind lists (cores a l.found.items) (cl.all_values (class_around a l.around) (map unit_view.member (drop l.one-index l.members.items)) (seen a l.state))
    ≡ cl.all_values (class_around a l.around) (map unit_view.member l.members.items) (seen a l.fn.state)
