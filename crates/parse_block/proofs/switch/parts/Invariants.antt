use Rattle.std.proofs.Common.{◌-◌}
use Rattle.grammar_laws.specs.Readers.{many_turns}
use Rattle.syntax_readers.specs.Statements.{is_case, part_first}
use Rattle.token_codes.specs.Codes.{class_of}
use Rattle.parse_jump.proofs.Loops.{ReadSoFar}
use Rattle.parse_block.specs.Views.{part_at, parts_of, parts_at}
use Rattle.parse_block.proofs.Parts.{part_list}
use Rattle.parse_block.proofs.switch.parts.Given as goal

abbrev pub invariant-loop-turn : goal.invariant-loop-turn
invariant-loop-turn g l = ReadSoFar part_list l.depth (parts_at l.depth l.fn.cursor) (parts_of l.found) l.highest (many_turns class_of is_case part_first (part_at l.depth) (l._turn-end - l._turn) l.cursor)
