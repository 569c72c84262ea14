use Rattle.std.proofs.Common.{◌-◌}
use Rattle.parse_loop.specs.Lists.{SoFar}
use Rattle.parse_class.specs.Views.{bare_at, items_of, parameter_list}
use Rattle.parse_class.proofs.Listing.{bare_list}
use Rattle.parse_class.proofs.type_parameter.parameter_list.Given as goal

abbrev pub invariant-loop-turn : goal.invariant-loop-turn
invariant-loop-turn g l = SoFar (bare_list l.depth) l.depth (parameter_list (bare_at l.depth) l.fn.cursor) (items_of l.found) l.highest
    (l._turn-end - l._turn) l.cursor
