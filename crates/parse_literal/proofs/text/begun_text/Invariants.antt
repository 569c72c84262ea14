use Rattle.std.proofs.Common.{◌-◌}
use Rattle.dart_tree.specs.Lists.{pieces_of}
use Rattle.parse_loop.specs.Lists.{SoFar}
use Rattle.parse_nest.specs.Stages.{closed_at}
use Rattle.parse_literal.specs.Views.{begun_text}
use Rattle.parse_literal.proofs.Strings.{begun}
use Rattle.parse_literal.proofs.text.begun_text.Given as goal

abbrev pub invariant-loop-turn : goal.invariant-loop-turn
invariant-loop-turn g l = SoFar (begun (closed_at l.depth)) l.depth (begun_text (closed_at l.depth) l.fn.cursor) (pieces_of l.found.items) l.highest (l._turn-end - l._turn) l.cursor
