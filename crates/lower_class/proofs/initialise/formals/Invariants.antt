use Rattle.std.proofs.Common.{◌≡◌, drop}
use Rattle.lower_function.specs.Made.{parameters}
use Rattle.lower_leaf.specs.Forms.{cores}
use Rattle.lower_leaf.specs.Seen.{seen}
use Rattle.lower_class.specs.Views.{class_around}
use Rattle.lower_class.proofs.Formal.{formals_from}
use Rattle.lower_class.proofs.Walking.{behind, lists}
use Rattle.lower_class.proofs.initialise.formals.Given as goal

abbrev pub invariant-loop-one : goal.invariant-loop-one
invariant-loop-one g l = let a = g.S.Surroundings.around l.outside in
    behind lists (cores a l.found.items) (formals_from (class_around a l.around) (drop l.one-index l.all.items) (drop l.i (parameters a l.bound)) (seen a l.state))
    ≡ formals_from (class_around a l.around) l.all.items (drop l.first (parameters a l.bound)) (seen a l.fn.state)
