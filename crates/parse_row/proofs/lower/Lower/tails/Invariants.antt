use Rattle.std.proofs.Common.{◌-◌}
use Rattle.parse_row.specs.Rows.{TailsSoFar, left_of, tails_behind}
use Rattle.parse_row.proofs.lower.Lower.tails.Given as goal

abbrev pub invariant-loop-turn : goal.invariant-loop-turn
invariant-loop-turn g l = TailsSoFar l.self.depth (tails_behind l.self.depth l.row l.fn.cursor) l.found.items l.half l.highest (left_of l.self.depth l.row l.more (l._turn-end - l._turn) l.cursor)
