use Rattle.std.proofs.Common.{◌-◌, map}
use Rattle.dart_tree.specs.View as view
use Rattle.parse_loop.specs.Lists.{SoFar}
use Rattle.parse_primary.specs.Views.{selectors_behind}
use Rattle.parse_primary.proofs.Selecting.{selectors_list}
use Rattle.parse_primary.proofs.selectors.selectors_behind.Given as goal
use Rattle.parse_nest.specs.Stages.{exprs_at}

abbrev pub invariant-loop-turn : goal.invariant-loop-turn
invariant-loop-turn g l = SoFar (selectors_list (exprs_at l.depth)) l.depth (selectors_behind l.depth (view.selector l.fn.first) l.fn.cursor) (map view.selector l.found.items) l.highest (l._turn-end - l._turn) l.cursor
