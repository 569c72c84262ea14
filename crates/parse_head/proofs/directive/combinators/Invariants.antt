use Rattle.std.proofs.Common.{◌-◌, map, [], ◌∷◌}
use Rattle.dart_tree.specs.UnitView as view
use Rattle.token_codes.specs.Codes.{show_code, hide_code}
use Rattle.syntax_readers.specs.Units.{combinators}
use Rattle.parse_loop.specs.Lists.{SoFar}
use Rattle.parse_loop.proofs.Alike.{flat}
use Rattle.parse_head.specs.Heads.{combinator_reader}
use Rattle.parse_head.proofs.directive.combinators.Given as goal

abbrev pub invariant-loop-turn : goal.invariant-loop-turn
invariant-loop-turn l = SoFar (flat (show_code ∷ hide_code ∷ []) combinator_reader) 0 (combinators l.fn.cursor) (map view.combinator l.found.items) 0 (l._turn-end - l._turn) l.cursor
