-- The negative of an integer of two words.
use Rattle.std.proofs.Common.{◌≡◌, ℕ, ◌+◌, ◌*◌, ◌/◌, ◌%◌, ◌^◌, ◌<◌, ap, ◌∙◌, arith}
use Rattle.std.specs.Prelude.{ℤ, pos, neg_ℤ}
use Rattle.std.specs.Int.{w128, cast_signed}
use Rattle.std.proofs.lemmas.Int.{to_z_pos}
use Rattle.dart_ir.specs.Integer.{integer_of, integer_value}
use Rattle.dart_ir.specs.declared.value.Value.TheVariants.{Int}

pub negated_same : (n high low : ℕ) (value : ℤ) → Int high low ≡ integer_value (pos n) → high < 2 ^ 63 → low < 2 ^ 64 →
    value ≡ neg_ℤ (integer_of high low) → integer_value value ≡ integer_value (neg_ℤ (pos n))
negated_same n high low value same below low_below is =
    let eh : high ≡ n / 2 ^ 64 = cc in
    let el : low ≡ n % 2 ^ 64 = cc in
    let en : high * 2 ^ 64 + low ≡ n = omega arith in
    let small : high * 2 ^ 64 + low < 2 ^ 127 = omega arith in
    ap integer_value (is ∙ ap neg_ℤ (to_z_pos w128 (high * 2 ^ 64 + low) small ∙ ap pos en))
