use Rattle.std.proofs.Common.{◌≡◌, ◌++◌, map, drop}
use Rattle.translation.specs.Walk as w
use Rattle.lower_leaf.specs.Seen.{seen}
use Rattle.lower_function.specs.Made.{parameters}
use Rattle.lower_function.specs.Formals.{formal, bind_all}
use Rattle.lower_function.proofs.parameter.bind_all.Given as goal

abbrev pub invariant-loop-one : goal.invariant-loop-one
invariant-loop-one g l = let a = g.S.Surroundings.around l.outside in
    w.on (bind_all l.allowed l.count l.shape (map (formal a) (drop l.one-index l.all.items)) (seen a l.state))
    (λ rest st. w.went (parameters a l.found ++ rest) st)
    ≡ bind_all l.allowed l.before l.shape (map (formal a) l.all.items) (seen a l.fn.state)
