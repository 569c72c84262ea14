use Rattle.std.proofs.Common.{◌≡◌, ℕ, ◌+◌, ◌/◌, ◌%◌, ◌<◌, ◌≤◌, ◌^◌, length, [], ◌∷◌, ap, ◌∙◌, arith, length-append}
use Rattle.std.specs.Fmt.{decimal}
use Rattle.std.proofs.lemmas.Fmt.{decimal_step_wide, decimal_digit, length-decimal-le_wide}
use Rattle.native_steps.proofs.length.digits_length.Goals as goal

-- a digit more
one_more : (n : ℕ) → 10 ≤ n → n < 10 ^ 64 → length (decimal n) ≡ length (decimal (n / 10)) + 1
one_more n high low = ap length (decimal_step_wide n high low) ∙ length-append (decimal (n / 10)) ((48 + n % 10) ∷ [])

longest : (n : ℕ) → n < 10 ^ 64 → length (decimal n) ≤ 64
longest n low = length-decimal-le_wide 64 n (omega arith) low low

pub overflow_add-count : goal.overflow_add-count
overflow_add-count c =
    let most = longest c.args.number (let r = c.ranges.number in omega arith) in omega (arith, most, c.loop-rest.invariant.1)

pub loop-rest-preserved : goal.loop-rest-preserved
loop-rest-preserved c =
    let low = c.loop-rest.invariant.0 in
    let more = one_more c.loop-rest.rest c.loop-rest-test.true low in
    (omega arith, omega (arith, more, c.loop-rest.invariant.1))

pub returns-clause-length : goal.returns-clause-length
returns-clause-length c =
    let one = ap length (decimal_digit c.loop-rest.rest c.loop-rest-test.false) in omega (arith, one, c.loop-rest.invariant.1)

pub returns-clause-bound : goal.returns-clause-bound
returns-clause-bound c =
    let one = ap length (decimal_digit c.loop-rest.rest c.loop-rest-test.false) in
    let most = longest c.args.number (let r = c.ranges.number in omega arith) in omega (arith, most, one, c.loop-rest.invariant.1)
