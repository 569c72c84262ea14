use Rattle.std.proofs.Common.{sym, ap, ◌∙◌}
use Rattle.std.specs.Prelude.{pos, int_lt, int_le}
use Rattle.std.specs.Int.{w128, cast_unsigned}
use Rattle.std.proofs.lemmas.Int.{to_z-of_z}
use Rattle.native_number.proofs.Wholes.{left_beyond}
use Rattle.native_number.proofs.number.shifted_left.Goals as goal

pub returns-then-x-neminus1 : goal.returns-then-x-neminus1
returns-then-x-neminus1 c =
    let same = to_z-of_z w128 c.args.y c.ranges.y in
    left_beyond c.args.x c.args.y (ap (λ (z : _). int_lt z (pos 0)) (sym same) ∙ c.if-y-lt0.false) (ap (λ (z : _). int_le z (pos 126)) (sym same) ∙ c.if-y-le126.false)
    (λ e. c.if-x-eq0.false (ap (cast_unsigned w128) e)) (λ e f. c.if-x-neminus1.true (ap (cast_unsigned w128) e))

pub returns-then-y-ne127 : goal.returns-then-y-ne127
returns-then-y-ne127 c =
    let same = to_z-of_z w128 c.args.y c.ranges.y in
    left_beyond c.args.x c.args.y (ap (λ (z : _). int_lt z (pos 0)) (sym same) ∙ c.if-y-lt0.false) (ap (λ (z : _). int_le z (pos 126)) (sym same) ∙ c.if-y-le126.false)
    (λ e. c.if-x-eq0.false (ap (cast_unsigned w128) e)) (λ e f. c.if-y-ne127.true (ap (cast_unsigned w128) f))
