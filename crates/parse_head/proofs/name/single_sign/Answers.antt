use Rattle.std.proofs.Common.{◌≡◌, ℕ, suc, ◌+◌, ◌∙◌, sym, ap, drop, arith}
use Rattle.std.proofs.lemmas.Result.{err_from_is_err_and}
use Rattle.dart_syntax.specs.Declarations.{operator_signs}
use Rattle.token_codes.specs.Leaves.{sign}
use Rattle.token_cursor.specs.Gives.{same}
use Rattle.syntax_readers.specs.Declarations.{operator_signs_of}
use Rattle.parse_head.proofs.Passing.{passes_flat}
use Rattle.parse_head.proofs.Naming.{signs_pass, signs_give, signs_stop, signs_over}
use Rattle.parse_head.proofs.name.single_sign.Goals as goal

pub returns-in_err-place : goal.returns-in_err-place
returns-in_err-place c =
    let p = err_from_is_err_and c.from_residual.result c.from_residual.ensures.1 in
    rw (p.1, p.2) (passes_flat same (sign _ c.loop-sign.cursor) same (operator_signs_of operator_signs c.args.cursor.now) c.in_err-place.field-0.0 c.expect.new.self
    (λ end e. c.loop-sign.invariant ∙ signs_stop operator_signs c.loop-sign.sign-index _ c.loop-sign.cursor end (omega (arith, c.loop-sign-test.true)) (sym c.if-sees.ensures) e) c.in_err-place.ensures)

pub returns-then-sees : goal.returns-then-sees
returns-then-sees c =
    c.loop-sign.invariant
    ∙ signs_give operator_signs c.loop-sign.sign-index _ c.loop-sign.cursor c.expect.new.self c.in_ok-place.place (omega (arith, c.loop-sign-test.true)) (sym c.if-sees.ensures) c.in_ok-place.ensures

pub loop-sign-preserved : goal.loop-sign-preserved
loop-sign-preserved c =
    let next : suc c.loop-sign.sign-index ≡ c.loop-sign.sign-index + 1 = omega arith in
    c.loop-sign.invariant
    ∙ signs_pass operator_signs c.loop-sign.sign-index _ c.loop-sign.cursor (omega (arith, c.loop-sign-test.true)) (sym c.if-sees.ensures)
    ∙ ap (λ (n : ℕ). operator_signs_of (drop n operator_signs) c.loop-sign.cursor) next

pub returns : goal.returns
returns c = c.loop-sign.invariant ∙ signs_over operator_signs c.loop-sign.sign-index c.loop-sign.cursor (omega (arith, c.loop-sign-test.false))
