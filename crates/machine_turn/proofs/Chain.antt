-- Classes up the chain of a class.
use Rattle.std.proofs.Common.{◌≡◌, ◌≢◌, ℕ, zero, suc, ◌-◌, Option, Some, None, true, false, nat_eq, refl, ap, ◌∙◌, arith}
use Rattle.std.proofs.lemmas.Bool.{eq-eqb, ne_eqb}
use Rattle.core_program.specs.Program.{Program}
use Rattle.evaluation.specs.Classes.{chain_within, superclass}
use Rattle.evaluation.specs.Values.{either}
use Rattle.evaluation.specs.Turn.{is_among}

pub among_zero : (n : ℕ) (p : Program ℕ) (c : Option ℕ) (k : ℕ) → n ≡ 0 → is_among k (chain_within n p c) ≡ false
among_zero zero p c k e = refl
among_zero (suc n) p c k e = absurd (omega arith)

pub among_none : (n : ℕ) (p : Program ℕ) (k : ℕ) → is_among k (chain_within n p None) ≡ false
among_none zero p k = refl
among_none (suc n) p k = refl

step : (n : ℕ) (p : Program ℕ) (c k : ℕ) → n ≢ 0
    → is_among k (chain_within n p (Some c)) ≡ either (nat_eq k c) (is_among k (chain_within (n - 1) p (superclass p c)))
step zero p c k h = absurd (h refl)
step (suc n) p c k h =
    ap (λ m. either (nat_eq k c) (is_among k (chain_within m p (superclass p c)))) (let e : n ≡ suc n - 1 = omega arith in e)

pub among_here : (n : ℕ) (p : Program ℕ) (c k : ℕ) → n ≢ 0 → k ≡ c → is_among k (chain_within n p (Some c)) ≡ true
among_here n p c k h e = step n p c k h ∙ ap (λ b. either b (is_among k (chain_within (n - 1) p (superclass p c)))) (eq-eqb k c e)

pub among_above : (n : ℕ) (p : Program ℕ) (c k : ℕ) → n ≢ 0 → k ≢ c
    → is_among k (chain_within n p (Some c)) ≡ is_among k (chain_within (n - 1) p (superclass p c))
among_above n p c k h e = step n p c k h ∙ ap (λ b. either b (is_among k (chain_within (n - 1) p (superclass p c)))) (ne_eqb k c e)
