-- Natives of numbers of one word.
use Rattle.std.proofs.Common.{◌≡◌, ◌≢◌, ℕ, zero, suc, ◌+◌, ◌-◌, ◌*◌, ◌/◌, ◌%◌, ◌<◌, ◌≤◌, ◌^◌, Bool, true, false, if◌then◌else◌, cond, Some, None, ℤ, pos, refl, ap, ◌∙◌, arith}
use Rattle.std.specs.Prelude.{negsuc, ◌-ℤ◌}
use Rattle.std.specs.Int.{w128, cast_signed}
use Rattle.std.proofs.Math.Nat.{mod-eq_of_lt, div-eq_of_lt}
use Rattle.std.proofs.lemmas.Bool.{le-ltb, lt-ltb}
use Rattle.std.proofs.lemmas.Int.{to_z_pos}
use Rattle.dart_ir.specs.declared.kind.ThrowKind.TheVariants.{IntegerDivisionByZeroException}
use Rattle.dart_ir.specs.declared.native.Answer.TheVariants as a
use Rattle.dart_ir.specs.declared.native.NativeId.{NativeId}
use Rattle.dart_ir.specs.declared.value.Value.{Value}
use Rattle.dart_ir.specs.declared.value.Value.TheVariants.{Int}
use Rattle.dart_ir.specs.Integer.{integer_of, integer_value}
use Rattle.native_number.specs.Number.{whole, whole_if, is_zero, truncated, modulo, is_unary, unary, is_binary, binary, with_one, with_two, number_native}

value_is : (n : ℕ) → n < 2 ^ 64 → integer_value (pos n) ≡ Int 0 n
value_is n h = ap (λ (q : ℕ). Int q (n % 2 ^ 64)) (div-eq_of_lt h) ∙ ap (Int 0) (mod-eq_of_lt h)

pub whole_is : (n : ℕ) → n < 2 ^ 64 → whole (pos n) ≡ a.Value (Int 0 n)
whole_is n h = ap (λ (b : Bool). whole_if b (pos n)) (lt-ltb n (2 ^ 127) (omega (arith, h))) ∙ ap a.Value (value_is n h)

number_is : (n : ℕ) → n < 2 ^ 64 → integer_of 0 n ≡ pos n
number_is n h = ap (cast_signed w128) (let e : 0 * 2 ^ 64 + n ≡ n = omega arith in e) ∙ to_z_pos w128 n (omega (arith, h))

not_zero : (n : ℕ) → n ≢ 0 → is_zero (pos n) ≡ false
not_zero zero h = absurd (h refl)
not_zero (suc n) h = refl

pub truncated_is : (x y : ℕ) → y ≢ 0 → truncated (pos x) (pos y) ≡ whole (pos (x / y))
truncated_is x y h = ap (λ (b : Bool). if b then a.Throw IntegerDivisionByZeroException else whole (pos (x / y))) (not_zero y h)

pub modulo_is : (x y : ℕ) → y ≢ 0 → modulo (pos x) (pos y) ≡ whole (pos (x % y))
modulo_is x y h = ap (λ (b : Bool). if b then a.Throw IntegerDivisionByZeroException else whole (pos (x % y))) (not_zero y h)

pub minus_is : (x y : ℕ) → y ≤ x → pos x -ℤ pos y ≡ pos (x - y)
minus_is x zero h = ap pos (let e : x + 0 ≡ x - 0 = omega arith in e)
minus_is x (suc y) h = ap (λ (b : Bool). cond b (negsuc (suc y - suc x)) (pos (x - suc y))) (le-ltb x (suc y) h)

pub native_is : (native : NativeId) (x y : ℕ) (v : Value) → x < 2 ^ 64 → y < 2 ^ 64 → is_unary native ≡ false → is_binary native ≡ true
    → binary native (pos x) (pos y) ≡ a.Value v → number_native native (Int 0 x) (Int 0 y) ≡ Some (a.Value v)
native_is native x y v low small u b e =
    let two = Some (with_two (binary native) (Some (integer_of 0 x)) (Some (integer_of 0 y))) in
    ap (λ (c : Bool). if c then Some (with_one (unary native) (Some (integer_of 0 x))) else if is_binary native then two else None) u
    ∙ ap (λ (c : Bool). if c then two else None) b
    ∙ ap (λ (i : ℤ). Some (binary native i (integer_of 0 y))) (number_is x low) ∙ ap (λ (i : ℤ). Some (binary native (pos x) i)) (number_is y small) ∙ ap Some e
