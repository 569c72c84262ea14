use Rattle.std.proofs.Common.{◌≡◌, map, drop}
use Rattle.dart_tree.specs.UnitView as unit_view
use Rattle.translation.specs.Classes as cl
use Rattle.lower_leaf.specs.Forms.{cores}
use Rattle.lower_leaf.specs.Seen.{seen}
use Rattle.lower_class.specs.Views.{class_around}
use Rattle.lower_class.proofs.Walking.{behind, lists}
use Rattle.lower_class.proofs.initialise.initializers.Given as goal

abbrev pub invariant-loop-i : goal.invariant-loop-i
invariant-loop-i g l = let a = g.S.Surroundings.around l.outside in
    behind lists (cores a l.found.items) (cl.initializers (class_around a l.around) (map unit_view.init (drop l.i l.all.items)) (seen a l.state))
    ≡ cl.initializers (class_around a l.around) (map unit_view.init l.all.items) (seen a l.fn.state)
