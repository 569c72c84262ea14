use Rattle.std.proofs.Common.{◌≡◌, drop}
use Rattle.dart_tree.specs.Lists.{more_variables_of}
use Rattle.translation.specs.Classes as cl
use Rattle.lower_leaf.specs.Forms.{cores}
use Rattle.lower_leaf.specs.Seen.{seen}
use Rattle.lower_class.specs.Views.{class_around}
use Rattle.lower_class.proofs.Walking.{behind, lists}
use Rattle.lower_class.proofs.value.more_values.Given as goal

abbrev pub invariant-loop-one : goal.invariant-loop-one
invariant-loop-one g l = let a = g.S.Surroundings.around l.outside in
    behind lists (cores a l.found.items) (cl.more_values (class_around a l.around) l.place (more_variables_of (drop l.one-index l.all.items)) (seen a l.state))
    ≡ cl.more_values (class_around a l.around) l.place (more_variables_of l.all.items) (seen a l.fn.state)
