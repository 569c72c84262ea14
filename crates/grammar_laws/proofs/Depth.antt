-- Budgets of nodes, and laws by the number of nodes that are left.
use Rattle.std.proofs.Common.{◌≡◌, ℕ, zero, suc, ◌<◌, true}
use Rattle.std.proofs.lemmas.Bool.{ltb-true, lt-ltb}
use Rattle.grammar_laws.specs.Depth.{is_below, stage}

pub below_is : {A : Type 0} (height : A → ℕ) (n : ℕ) (a : A) → is_below height n a ≡ true → height a < n
below_is height n a h = ltb-true (height a) n h

pub is_below_by : {A : Type 0} (height : A → ℕ) (n : ℕ) (a : A) → height a < n → is_below height n a ≡ true
is_below_by height n a h = lt-ltb (height a) n h

-- what holds at the bottom and is kept by each step holds at each depth, of the readers and the fronts together
pub staged {ℓ κ μ} : {S : Type ℓ} {F : Type κ} (Good : ℕ → S → F → Type μ) {bottom : S} {step : ℕ → S → S} {empty : F} {front_step : ℕ → F → F} →
    Good 0 bottom empty → ((n : ℕ) (s : S) (f : F) → Good n s f → Good (suc n) (step n s) (front_step n f)) → (n : ℕ) → Good n (stage bottom step n) (stage empty front_step n)
staged Good none more zero = none
staged Good none more (suc n) = more n _ _ (staged Good none more n)
