use Rattle.std.proofs.Common.{◌≡◌, ◌-◌, length}
use Rattle.dart_syntax.specs.Syntax.{left_out, left_out_from}
use Rattle.parse_unit.proofs.left_out.left_out.Given as goal

abbrev pub invariant-loop-turn : goal.invariant-loop-turn
invariant-loop-turn l =
    (left_out l.fn.tokens ≡ left_out_from l.after_parenthesis l.rest) × (length l.rest ≡ l._turn-end - l._turn)
