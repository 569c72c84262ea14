use Rattle.std.proofs.Common.{◌≡◌, drop}
use Rattle.dart_tree.specs.Lists.{more_variables_of}
use Rattle.translation.specs.Declarations as d
use Rattle.lower_leaf.specs.Seen.{seen, asked}
use Rattle.lower_decl.proofs.variable.static_variables.Given as goal

abbrev pub invariant-loop-one : goal.invariant-loop-one
invariant-loop-one g l = let a = g.S.Surroundings.around l.outside in
    d.static_variables (asked a l.wanted) l.final_one (more_variables_of (drop l.one-index l.all.items)) (seen a l.state)
    ≡ d.static_variables (asked a l.wanted) l.final_one (more_variables_of l.all.items) (seen a l.fn.state)
