use Rattle.std.proofs.Common.{◌-◌}
use Rattle.dart_tree.specs.Lists.{pieces_of}
use Rattle.parse_loop.specs.Lists.{SoFar}
use Rattle.parse_nest.specs.Stages.{closed_at}
use Rattle.syntax_readers.specs.Primaries.{strings}
use Rattle.parse_literal.proofs.Strings.{all_strings}
use Rattle.parse_literal.proofs.text.strings.Given as goal

abbrev pub invariant-loop-turn : goal.invariant-loop-turn
invariant-loop-turn g l = SoFar (all_strings (closed_at l.depth)) l.depth (strings (closed_at l.depth) l.fn.cursor) (pieces_of l.found.items) l.highest (l._turn-end - l._turn) l.cursor
