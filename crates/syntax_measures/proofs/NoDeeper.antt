-- That no tree is deeper than its phrase allows goes with the words of the phrases.
use Rattle.std.proofs.Common.{◌≡◌, ℕ, max, ◌≤◌, arith, Bool, List, [], ◌∷◌, Option, None, Some, inl, inr, sym, ap, ◌∙◌, subst}
use Rattle.std.specs.List.{AllByRecursion}
use Rattle.grammar_laws.specs.Fronts.{Made, EachFit, OptionFit}
use Rattle.dart_tree.specs.Depth.{height_if, highest}
use Rattle.dart_syntax.specs.Phrases.{Phrase, either, rather, perhaps}
use Rattle.syntax_measures.specs.Heights.{NoDeeper, no_deeper}
use Rattle.syntax_measures.proofs.Walk.{Walk}

least : (n : ℕ) → 0 ≤ n
least n = omega arith

from_zero : {a n : ℕ} → a ≡ 0 → a ≤ n
from_zero e = omega arith

same_low : {a b n : ℕ} → a ≡ b → b ≤ n → a ≤ n
same_low e h = omega arith

both_low : {a b n : ℕ} → a ≤ n → b ≤ n → max a b ≤ n
both_low h k = omega arith

module _ {A : Type 0} {f : A → ℕ} {n : ℕ} {p : Phrase A} (P : NoDeeper f n p) where
  maybe_low : (x : Option A) → OptionFit p.Fits x → height_if f x ≤ n
  maybe_low None fits = least n
  maybe_low (Some x) fits = P.at_most x fits

  all_low : (xs : List A) → AllByRecursion p.Fits xs → highest f xs ≤ n
  all_low [] fits = least n
  all_low (x ∷ xs) fits = both_low (P.at_most x fits.0) (all_low xs fits.1)

  some_low : (may : A → Bool) (xs : List A) → EachFit p.Fits may xs → highest f xs ≤ n
  some_low may [] fits = least n
  some_low may (x ∷ xs) fits = both_low (P.at_most x fits.0) (some_low may xs fits.2)

one_low : {A : Type 0} {f : A → ℕ} {n : ℕ} {p q : Phrase A} → NoDeeper f n p → NoDeeper f n q → (a : A) → (either p q).Fits a → f a ≤ n
one_low P Q a (inl fits) = P.at_most a fits
one_low P Q a (inr fits) = Q.at_most a fits

first_low : {A : Type 0} {f : A → ℕ} {n : ℕ} {p q : Phrase A} → NoDeeper f n p → NoDeeper f n q → (a : A) → (rather p q).Fits a → f a ≤ n
first_low P Q a (inl fits) = P.at_most a fits
first_low P Q a (inr fits) = Q.at_most a fits.0

or_none_low : {A : Type 0} {f : A → ℕ} {n : ℕ} {p : Phrase A} (a : A) → f a ≡ 0 → NoDeeper f n p → (b : A) → (perhaps a p).Fits b → f b ≤ n
or_none_low {f = f} a e P b (inl is) = from_zero (ap f is ∙ e)
or_none_low a e P b (inr fits) = P.at_most b fits

made_low : {A B : Type 0} {f : A → ℕ} {n : ℕ} {p : Phrase A} (height_of : B → ℕ) (tree : A → B) → NoDeeper f n p → ((a : A) → height_of (tree a) ≡ f a) → (b : B) → Made tree p.Fits b → height_of b ≤ n
made_low {n = n} height_of tree P rated b (a, fits, is) = subst (λ c. height_of c ≤ n) is (same_low (rated a) (P.at_most a fits))

none_low : {A : Type 0} (f : A → ℕ) (n : ℕ) (xs : List A) → xs ≡ [] → highest f xs ≤ n
none_low f n xs is = from_zero (ap (highest f) is)

pub no_deeper_walk : Walk no_deeper (λ b. no_deeper) (λ n m. n ≡ m)
no_deeper_walk = record {
  same = λ p rated single. record { at_most = λ a fits. from_zero (rated a fits) };
  empty = λ said none. record { at_most = λ a fits. absurd fits };
  both = λ P Q. record { at_most = λ x fits. both_low (P.at_most x.0 fits.0) (Q.at_most x.1 fits.1) };
  both_if = λ may P Q. record { at_most = λ x fits. both_low (P.at_most x.0 fits.0.0) (Q.at_most x.1 fits.1) };
  both_by = λ u P Q. record { at_most = λ x fits. both_low (P.at_most x.0 fits.0) ((Q x.0).at_most x.1 fits.1) };
  maybe = λ P. record { at_most = maybe_low P };
  all = λ P. record { at_most = all_low P };
  some = λ may P. record { at_most = λ xs fits. some_low P may xs fits.1 };
  none = λ P. record { at_most = none_low _ _ };
  one = λ P Q. record { at_most = one_low P Q };
  first = λ still P Q. record { at_most = first_low P Q };
  or_none = λ a e empty P. record { at_most = or_none_low a e P };
  make = λ tokens height_of tree P said rated. record { at_most = made_low height_of tree P rated };
  good = λ test P. record { at_most = λ a fits. P.at_most a fits.0 };
  good_tokens = λ test same P. record { at_most = λ a fits. P.at_most a fits.0 };
  node = λ P. record { at_most = λ a fits. let low = P.at_most a fits in omega arith };
  rated = λ e P. record { at_most = λ a fits. same_low (sym (e a)) (P.at_most a fits) };
  right = λ b. record { at_most = λ a fits. least _ };
  right_then = λ b Q. record { at_most = λ x fits. Q.at_most x.1 fits.1 };
  closing = λ P Q. record { at_most = λ x fits. both_low (P.at_most x.0 fits.0) (Q.at_most x.1 fits.1) };
  left = λ b Q. record { at_most = λ x fits. Q.at_most x.1 fits.1 };
  closing_rated = λ e P. record { at_most = λ a fits. same_low (sym (e a)) (P.at_most a fits) };
  under = λ e. omega arith;
  wide = λ Others other e P. record { at_most = P.at_most };
  narrow = λ Others other e P high. absurd (omega arith);
  high = λ e high. absurd (omega arith);
}
