use Rattle.std.proofs.Common.{◌-◌}
use Rattle.parse_expr.specs.Views.{CascadesSoFar}
use Rattle.parse_expr.proofs.cascade.cascades.Given as goal

abbrev pub invariant-loop-turn : goal.invariant-loop-turn
invariant-loop-turn g l = CascadesSoFar l.depth l.fn.cursor l.found.items l.highest (l._turn-end - l._turn) l.cursor
