use Rattle.std.proofs.Common.{sym, ap, ◌∙◌}
use Rattle.std.specs.Prelude.{pos, int_lt, int_le}
use Rattle.std.specs.Int.{w128}
use Rattle.std.proofs.lemmas.Int.{to_z-of_z}
use Rattle.native_number.proofs.Wholes.{right_low, right_high}
use Rattle.native_number.proofs.number.shifted_right.Goals as goal

pub returns-then-x-lt0 : goal.returns-then-x-lt0
returns-then-x-lt0 c =
    let same = to_z-of_z w128 c.args.y c.ranges.y in
    let here = to_z-of_z w128 c.args.x c.ranges.x in
    c.whole-then-x-lt0.ensures ∙ right_low c.args.x c.args.y c.ranges.x (ap (λ (z : _). int_lt z (pos 0)) (sym here) ∙ c.if-x-lt0.true)
    (ap (λ (z : _). int_lt z (pos 0)) (sym same) ∙ c.if-y-lt0.false) (ap (λ (z : _). int_le z (pos 126)) (sym same) ∙ c.if-y-le126.false)

pub returns-else-x-lt0 : goal.returns-else-x-lt0
returns-else-x-lt0 c =
    let same = to_z-of_z w128 c.args.y c.ranges.y in
    let here = to_z-of_z w128 c.args.x c.ranges.x in
    c.whole-else-x-lt0.ensures ∙ right_high c.args.x c.args.y c.ranges.x (ap (λ (z : _). int_lt z (pos 0)) (sym here) ∙ c.if-x-lt0.false)
    (ap (λ (z : _). int_lt z (pos 0)) (sym same) ∙ c.if-y-lt0.false) (ap (λ (z : _). int_le z (pos 126)) (sym same) ∙ c.if-y-le126.false)
