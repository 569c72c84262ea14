use Rattle.parse_unary.specs.Views.{open_operand}
use Rattle.parse_row.specs.Rows.{Climbed}
use Rattle.parse_row.proofs.rows.climb.Given as goal

abbrev pub invariant-loop-i : goal.invariant-loop-i
invariant-loop-i g l = Climbed l.depth l.i l.fn.cursor (open_operand l.operand) l.tall l.cursor
