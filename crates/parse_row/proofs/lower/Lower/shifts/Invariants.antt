use Rattle.std.proofs.Common.{◌-◌}
use Rattle.parse_row.specs.Rows.{TailsSoFar, left_from, shifts_behind}
use Rattle.parse_row.proofs.lower.Lower.shifts.Given as goal

abbrev pub invariant-loop-turn : goal.invariant-loop-turn
invariant-loop-turn g l = TailsSoFar l.self.depth (shifts_behind l.self.depth l.row l.fn.before l.fn.cursor) l.found.items l.half l.highest (left_from l.self.depth l.row l.more l.half (l._turn-end - l._turn) l.cursor)
