use Rattle.std.proofs.Common.{◌-◌}
use Rattle.grammar_laws.specs.Readers.{always, many}
use Rattle.token_codes.specs.Codes.{class_of, names}
use Rattle.token_codes.specs.Leaves.{label}
use Rattle.parse_loop.specs.Lists.{SoFar}
use Rattle.parse_loop.proofs.Alike.{flat}
use Rattle.parse_jump.proofs.labels.part_labels.Given as goal

abbrev pub invariant-loop-turn : goal.invariant-loop-turn
invariant-loop-turn l = SoFar (flat names label) 0 (many class_of always names label l.fn.cursor) l.found.items 0 (l._turn-end - l._turn) l.cursor
