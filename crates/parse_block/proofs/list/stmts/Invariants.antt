use Rattle.std.proofs.Common.{◌-◌}
use Rattle.parse_block.specs.Views.{list_of}
use Rattle.parse_block.proofs.Turns.{StmtsSoFar}
use Rattle.parse_block.proofs.list.stmts.Given as goal

abbrev pub invariant-loop-turn : goal.invariant-loop-turn
invariant-loop-turn g l = StmtsSoFar l.depth l.in_part l.fn.cursor (list_of l.found) l.highest l.room (l._turn-end - l._turn) l.cursor
