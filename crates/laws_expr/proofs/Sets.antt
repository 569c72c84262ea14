-- Sets of codes: which have none in common, and which are within which.
use Rattle.std.proofs.Common.{◌≡◌, ℕ, Bool, true, false, not, List, ◌++◌, inl, inr, refl}
use Rattle.grammar_laws.specs.Codes.{has, given, Apart, Within}
use Rattle.grammar_laws.proofs.Codes.{apart_none, clash, has_cases, not_true, within_given, within_self}

pub not_false : (b : Bool) → not b ≡ true → b ≡ false
not_false true h = absurd cc
not_false false h = refl

pub not_either : (xs ys : List ℕ) (m : ℕ) → has xs m ≡ false → has ys m ≡ false → has (xs ++ ys) m ≡ false
not_either xs ys m a b = not_true (has (xs ++ ys) m) (λ h. elim (has_cases xs ys m h) [ inl k ↦ clash (has xs m) k a | inr k ↦ clash (has ys m) k b ])

pub swap : {xs ys : List ℕ} → Apart xs ys → Apart ys xs
swap off = record { never_both = λ n h k. off.never_both n k h }

-- ---- sets that stand where a condition holds

pub apart_when : (b : Bool) {xs ys : List ℕ} → (b ≡ true → Apart xs ys) → Apart (given b xs) ys
apart_when true on = on refl
apart_when false {ys = ys} on = apart_none ys

pub given_off : (b : Bool) (xs ys : List ℕ) → b ≡ false → Apart (given b xs) ys
given_off true xs ys e = absurd cc
given_off false xs ys e = apart_none ys

pub given_on : (b : Bool) (xs : List ℕ) → b ≡ true → Within xs (given b xs)
given_on true xs e = within_self xs
given_on false xs e = absurd cc

pub given_more : (b c : Bool) (xs : List ℕ) → (b ≡ true → c ≡ true) → Within (given b xs) (given c xs)
given_more b c xs on = within_given b (λ e. given_on c xs (on e))

pub given_misses : (b : Bool) (xs : List ℕ) (m : ℕ) → has xs m ≡ false → has (given b xs) m ≡ false
given_misses true xs m e = e
given_misses false xs m e = refl
