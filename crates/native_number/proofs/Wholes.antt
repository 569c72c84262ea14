-- Numbers that are shifted by as many places as they have bits, or nearly.
use Rattle.std.proofs.Common.{◌≡◌, ℕ, zero, suc, ◌*◌, ◌/◌, ◌%◌, ◌<◌, ◌≤◌, ◌^◌, Bool, true, false, refl, sym, ap, ◌∙◌, arith}
use Rattle.std.specs.Prelude.{ℤ, pos, negsuc, neg_ℤ, ◌*ℤ◌, int_lt, int_le, FitsSigned}
use Rattle.std.specs.Int.{w128, cast_signed}
use Rattle.std.proofs.Math.Nat.{pow-le-pow_right, mod-eq_of_lt, div-eq_of_lt, suc-mul}
use Rattle.std.proofs.lemmas.Bool.{le-ltb, leb-false, ltb-true}
use Rattle.std.proofs.lemmas.Int.{to_z_pos}
use Rattle.dart_ir.specs.declared.native.Answer.TheVariants as a
use Rattle.dart_ir.specs.Integer.{integer_value}
use Rattle.native_number.specs.Number.{whole, whole_if, shifted_left, shifted_right}

-- ---- powers of two

pub low_power : (k : ℕ) → k ≤ 126 → 2 ^ k < 2 ^ 127
low_power k low = let p = pow-le-pow_right {n = 2} (omega arith) {i = k} {j = 126} low in omega (arith, p)

pub high_power : (k : ℕ) → 127 ≤ k → 2 ^ 127 ≤ 2 ^ k
high_power k high = pow-le-pow_right {n = 2} (omega arith) {i = 127} {j = k} high

high_power_above : (k : ℕ) → 127 ≤ k → (k ≡ 127 → ⊥) → 2 ^ 127 < 2 ^ k
high_power_above k high more =
    let p = pow-le-pow_right {n = 2} (omega arith) {i = 128} {j = k} (omega (arith, more)) in omega (arith, p)

-- a power that has 128 bits, as it is computed
pub power_is : (k : ℕ) → k ≤ 126 → cast_signed w128 (1 * 2 ^ k % 2 ^ 128) ≡ pos (2 ^ k)
power_is k low =
    let p = low_power k low in
    let one : 1 * 2 ^ k ≡ 2 ^ k = omega arith in
    let below : 1 * 2 ^ k < 2 ^ 128 = omega (arith, p) in
    let e : 1 * 2 ^ k % 2 ^ 128 ≡ 2 ^ k = mod-eq_of_lt below ∙ one in
    ap (cast_signed w128) e ∙ to_z_pos w128 (2 ^ k) p

-- ---- to the left

limit_at : (n : ℕ) → 2 ^ 127 ≤ n → a.IntegerLimit ≡ whole (pos n)
limit_at n high = sym (ap (λ (b : Bool). whole_if b (pos n)) (le-ltb n (2 ^ 127) high))

limit_below : (n : ℕ) → 2 ^ 127 < n → a.IntegerLimit ≡ whole (neg_ℤ (pos n))
limit_below zero high = absurd (omega (arith, high))
limit_below (suc n) high = sym (ap (λ (b : Bool). whole_if b (negsuc n)) (le-ltb n (2 ^ 127) (omega (arith, high))))

-- a product of a number and a power
more : (n m : ℕ) → 2 ^ 127 ≤ m → 2 ^ 127 ≤ suc n * m
more n m high = let e = suc-mul n m in omega (arith, high)

far_left : (x : ℤ) (k : ℕ) → (x ≡ pos 0 → ⊥) → 127 ≤ k → (x ≡ negsuc 0 → k ≡ 127 → ⊥) → a.IntegerLimit ≡ whole (x *ℤ pos (2 ^ k))
far_left (pos zero) k some high least = absurd (some refl)
far_left (pos (suc n)) k some high least = limit_at (suc n * 2 ^ k) (more n (2 ^ k) (high_power k high))
far_left (negsuc zero) k some high least =
    let p = high_power_above k high (λ e. least refl e) in
    limit_below (1 * 2 ^ k) (omega (arith, p))
far_left (negsuc (suc n)) k some high least =
    let p = high_power k high in
    let e = suc-mul (suc n) (2 ^ k) in
    let f = suc-mul n (2 ^ k) in
    limit_below (suc (suc n) * 2 ^ k) (omega (arith, p))

pub left_beyond : (x y : ℤ) → int_lt y (pos 0) ≡ false → int_le y (pos 126) ≡ false → (x ≡ pos 0 → ⊥) → (x ≡ negsuc 0 → y ≡ pos 127 → ⊥) → a.IntegerLimit ≡ shifted_left x y
left_beyond x (pos k) up high some least = far_left x k some (let l = leb-false k 126 high in omega arith) (λ e f. least e (ap pos f))
left_beyond x (negsuc k) up high some least = absurd cc

-- ---- to the right

none_left : (n k : ℕ) → n < 2 ^ 127 → 127 ≤ k → n / 2 ^ k ≡ 0
none_left n k low high = let p = high_power k high in div-eq_of_lt (omega (arith, p))

pub right_beyond_low : (n : ℕ) (y : ℤ) → n < 2 ^ 127 → int_lt y (pos 0) ≡ false → int_le y (pos 126) ≡ false → a.Value (integer_value (negsuc 0)) ≡ shifted_right (negsuc n) y
right_beyond_low n (pos k) low up high = ap (λ (q : ℕ). whole (negsuc q)) (sym (none_left n k low (let l = leb-false k 126 high in omega arith)))
right_beyond_low n (negsuc k) low up high = absurd cc

pub right_beyond_high : (n : ℕ) (y : ℤ) → n < 2 ^ 127 → int_lt y (pos 0) ≡ false → int_le y (pos 126) ≡ false → a.Value (integer_value (pos 0)) ≡ shifted_right (pos n) y
right_beyond_high n (pos k) low up high = ap (λ (q : ℕ). whole (pos q)) (sym (none_left n k low (let l = leb-false k 126 high in omega arith)))
right_beyond_high n (negsuc k) low up high = absurd cc

pub right_low : (x y : ℤ) → FitsSigned w128 x → int_lt x (pos 0) ≡ true → int_lt y (pos 0) ≡ false → int_le y (pos 126) ≡ false → a.Value (integer_value (negsuc 0)) ≡ shifted_right x y
right_low (pos n) y fits low up high = absurd (let l = ltb-true n 0 low in omega arith)
right_low (negsuc n) y fits low up high = let f = fits.sfits in right_beyond_low n y (omega (arith, f)) up high

pub right_high : (x y : ℤ) → FitsSigned w128 x → int_lt x (pos 0) ≡ false → int_lt y (pos 0) ≡ false → int_le y (pos 126) ≡ false → a.Value (integer_value (pos 0)) ≡ shifted_right x y
right_high (pos n) y fits low up high = let f = fits.sfits in right_beyond_high n y (omega (arith, f)) up high
right_high (negsuc n) y fits low up high = absurd cc
