use Rattle.std.proofs.Common.{◌-◌}
use Rattle.dart_tree.specs.Lists.{items_of}
use Rattle.parse_literal.proofs.Listings.{items_list}
use Rattle.parse_loop.specs.Lists.{SoFar}
use Rattle.parse_nest.specs.Stages.{closed_at}
use Rattle.parse_stmt.specs.Views.{some_updates}
use Rattle.parse_stmt.proofs.iterate.some_updates.Given as goal

abbrev pub invariant-loop-turn : goal.invariant-loop-turn
invariant-loop-turn g l = SoFar (items_list (closed_at l.depth)) l.depth (some_updates (closed_at l.depth) l.fn.cursor) (items_of l.found.items) l.highest (l._turn-end - l._turn) l.cursor
