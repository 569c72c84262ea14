use Rattle.std.proofs.Common.{◌-◌}
use Rattle.syntax_readers.specs.Combinators.{many_where_turns}
use Rattle.syntax_readers.specs.Statements.{try_part_comes}
use Rattle.syntax_readers.specs.Types.{type_reader}
use Rattle.parse_jump.proofs.Loops.{ReadSoFar}
use Rattle.parse_stmt.specs.Views.{view_parts, try_part_at, handlers_at}
use Rattle.parse_stmt.proofs.Handling.{parts_list}
use Rattle.parse_stmt.proofs.attempt.handlers.Given as goal

abbrev pub invariant-loop-turn : goal.invariant-loop-turn
invariant-loop-turn g l =
    ReadSoFar (parts_list l.depth) l.depth (handlers_at l.depth l.fn.cursor) (view_parts l.found) l.highest (many_where_turns (try_part_comes (type_reader l.depth)) (try_part_at l.depth) (l._turn-end - l._turn) l.cursor)
