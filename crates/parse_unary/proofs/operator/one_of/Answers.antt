use Rattle.std.proofs.Common.{◌≡◌, ℕ, suc, ◌+◌, ◌∙◌, sym, ap, drop, arith}
use Rattle.token_codes.specs.Leaves.{one_of}
use Rattle.parse_unary.proofs.Signs.{read_pass, read_take, read_over}
use Rattle.parse_unary.proofs.operator.one_of.Goals as goal

pub returns-then-sees : goal.returns-then-sees
returns-then-sees c =
    rw (c.loop-sign.invariant ∙ read_take c.args.signs.now c.loop-sign.sign-index _ c.loop-sign.cursor (omega (arith, c.loop-sign-test.true)) (sym c.if-sees.ensures)) c.signed.ensures

pub loop-sign-preserved : goal.loop-sign-preserved
loop-sign-preserved c =
    let next : suc c.loop-sign.sign-index ≡ c.loop-sign.sign-index + 1 = omega arith in
    c.loop-sign.invariant
    ∙ read_pass c.args.signs.now c.loop-sign.sign-index _ c.loop-sign.cursor (omega (arith, c.loop-sign-test.true)) (sym c.if-sees.ensures)
    ∙ ap (λ (n : ℕ). one_of (drop n c.args.signs.now) c.loop-sign.cursor) next

pub returns : goal.returns
returns c = c.loop-sign.invariant ∙ read_over c.args.signs.now c.loop-sign.sign-index c.loop-sign.cursor (omega (arith, c.loop-sign-test.false))
