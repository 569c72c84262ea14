-- A number does not fall as digits are added.
use Rattle.std.proofs.Common.{◌≡◌, ℕ, zero, suc, ◌+◌, ◌-◌, ◌*◌, ◌<◌, ◌≤◌, ◌^◌, List, [], ◌∷◌, length, drop, get_or, arith}
use Rattle.std.specs.Prelude.{fold}

pub value_at_least : (n : ℕ) (digits : List ℕ) → n ≤ fold (λ m u. m * 10 + (u - 48)) n digits
value_at_least n [] = omega arith
value_at_least n (u ∷ digits) = let more = value_at_least (n * 10 + (u - 48)) digits in omega (arith, more)

pub too_large : (n i value : ℕ) (digits : List ℕ) → i < length digits → fold (λ m u. m * 10 + (u - 48)) n (drop i digits) ≡ value → 2 ^ 128 ≤ n * 10 + (get_or digits i 0 - 48) → 2 ^ 128 ≤ value
too_large n i value [] below e high = absurd (omega (arith, below))
too_large n zero value (u ∷ digits) below e high = let more = value_at_least (n * 10 + (u - 48)) digits in omega (arith, e, more, high)
too_large n (suc i) value (u ∷ digits) below e high = too_large n i value digits (omega (arith, below)) e high
