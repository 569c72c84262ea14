use Rattle.std.proofs.Common.{◌≡◌, drop}
use Rattle.dart_tree.specs.Lists.{more_variables_of}
use Rattle.translation.specs.Productions as low
use Rattle.lower_stmt.proofs.Rest.{behind_forms}
use Rattle.lower_leaf.specs.Forms.{cores}
use Rattle.lower_leaf.specs.Seen.{seen, asked}
use Rattle.lower_stmt.proofs.variable.more_variables.Given as goal

abbrev pub invariant-loop-one : goal.invariant-loop-one
invariant-loop-one g l = let a = g.S.Surroundings.around l.outside in
    behind_forms (cores a l.found.items) (low.more_variables l.place (asked a l.wanted) l.final_one (more_variables_of (drop l.one-index l.all.items)) (seen a l.state))
    ≡ low.more_variables l.place (asked a l.wanted) l.final_one (more_variables_of l.all.items) (seen a l.fn.state)
