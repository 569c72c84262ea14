use Rattle.std.proofs.Common.{◌≡◌, ◌++◌, map, drop}
use Rattle.translation.specs.Applications as ap
use Rattle.translation.specs.Walk as w
use Rattle.lower_leaf.specs.Seen.{seen}
use Rattle.lower_function.specs.Made.{parameter, parameters}
use Rattle.lower_mixin.proofs.forward.forwarded.Given as goal

abbrev pub invariant-loop-one : goal.invariant-loop-one
invariant-loop-one g l = let a = g.S.Surroundings.around l.outside in
    w.on (ap.forwarded l.place l.x (map (parameter a) (drop l.one-index l.all.items)) (seen a l.state)) (λ rest st. w.went (parameters a l.found ++ rest) st)
    ≡ ap.forwarded l.place l.first (parameters a l.all) (seen a l.fn.state)
