use Rattle.std.proofs.Common.{◌-◌, []}
use Rattle.token_codes.specs.Leaves.{label}
use Rattle.syntax_readers.specs.Combinators.{many_where, many_where_turns}
use Rattle.syntax_readers.specs.Statements.{label_comes}
use Rattle.parse_loop.proofs.Alike.{flat}
use Rattle.parse_jump.proofs.Loops.{ReadSoFar}
use Rattle.parse_jump.proofs.labels.labels.Given as goal

abbrev pub invariant-loop-turn : goal.invariant-loop-turn
invariant-loop-turn l = ReadSoFar (flat [] label) 0 (many_where label_comes label l.fn.cursor) l.found.items 0 (many_where_turns label_comes label (l._turn-end - l._turn) l.cursor)
