-- That a tree fits at every depth that it is no higher than goes with the words of the phrases.
use Rattle.std.proofs.Common.{◌≡◌, ℕ, ◌≤◌, arith, Bool, List, [], ◌∷◌, Option, None, Some, inl, inr, sym, ap, ◌∙◌, subst}
use Rattle.std.specs.List.{AllByRecursion}
use Rattle.grammar_laws.specs.Fronts.{Made, EitherFit, EachFit, OptionFit, Alone}
use Rattle.dart_tree.specs.Depth.{height_if, highest}
use Rattle.dart_syntax.specs.Phrases.{Phrase, either, rather, perhaps}
use Rattle.syntax_measures.specs.Heights.{FitsBy, fits_by}
use Rattle.syntax_measures.proofs.Walk.{Walk}

same_by : {a b m : ℕ} → a ≡ b → a ≤ m → b ≤ m
same_by e h = omega arith

module _ {A : Type 0} {f : A → ℕ} {m : ℕ} {p q : Phrase A} (P : FitsBy f m p q) where
  maybe_by : (x : Option A) → OptionFit p.Fits x → height_if f x ≤ m → OptionFit q.Fits x
  maybe_by None fits low = tt
  maybe_by (Some x) fits low = P.fits x fits low

  all_by : (xs : List A) → AllByRecursion p.Fits xs → highest f xs ≤ m → AllByRecursion q.Fits xs
  all_by [] fits low = tt
  all_by (x ∷ xs) fits low = (P.fits x fits.0 (omega arith), all_by xs fits.1 (omega arith))

  some_by : (may : A → Bool) (xs : List A) → EachFit p.Fits may xs → highest f xs ≤ m → EachFit q.Fits may xs
  some_by may [] fits low = tt
  some_by may (x ∷ xs) fits low = (P.fits x fits.0 (omega arith), fits.1, some_by may xs fits.2 (omega arith))

  or_none_by : (a : A) (b : A) → (perhaps a p).Fits b → f b ≤ m → (perhaps a q).Fits b
  or_none_by a b (inl is) low = inl is
  or_none_by a b (inr fits) low = inr (P.fits b fits low)

  narrow_by : (Others : A → Type 0) → ((a : A) → Others a → f a ≤ m → ⊥) → (a : A) → EitherFit p.Fits Others a → f a ≤ m → q.Fits a
  narrow_by Others high a (inl fits) low = P.fits a fits low
  narrow_by Others high a (inr fits) low = absurd (high a fits low)

module _ {A : Type 0} {f : A → ℕ} {m : ℕ} {p q r s : Phrase A} (P : FitsBy f m p q) (Q : FitsBy f m r s) where
  one_by : (a : A) → (either p r).Fits a → f a ≤ m → (either q s).Fits a
  one_by a (inl fits) low = inl (P.fits a fits low)
  one_by a (inr fits) low = inr (Q.fits a fits low)

  first_by : ((a : A) → r.Fits a → Alone p.spelling p.Fits a → Alone q.spelling q.Fits a) → (a : A) → (rather p r).Fits a → f a ≤ m → (rather q s).Fits a
  first_by still a (inl fits) low = inl (P.fits a fits low)
  first_by still a (inr (fits, alone)) low = inr (Q.fits a fits low, still a fits alone)

made_by : {A B : Type 0} {f : A → ℕ} {m : ℕ} {p q : Phrase A} (height_of : B → ℕ) (tree : A → B) → FitsBy f m p q → ((a : A) → height_of (tree a) ≡ f a) → (b : B) → Made tree p.Fits b → height_of b ≤ m → Made tree q.Fits b
made_by {m = m} height_of tree P rated b (a, fits, is) low = (a, P.fits a fits (same_by (rated a) (subst (λ c. height_of c ≤ m) (sym is) low)), is)

-- at any two depths
abbrev pub Any : ℕ → ℕ → Type 0
Any n m = Unit {0}

pub fits_by_walk : Walk fits_by (λ b. fits_by) Any
fits_by_walk = record {
  same = λ p rated single. record { fits = λ a fits low. fits };
  empty = λ said none. record { fits = λ a fits low. absurd fits };
  both = λ P Q. record { fits = λ x fits low. (P.fits x.0 fits.0 (omega arith), Q.fits x.1 fits.1 (omega arith)) };
  both_if = λ may P Q. record { fits = λ x fits low. ((P.fits x.0 fits.0.0 (omega arith), fits.0.1), Q.fits x.1 fits.1 (omega arith)) };
  both_by = λ u P Q. record { fits = λ x fits low. (P.fits x.0 fits.0 (omega arith), (Q x.0).fits x.1 fits.1 (omega arith)) };
  maybe = λ P. record { fits = maybe_by P };
  all = λ P. record { fits = all_by P };
  some = λ may P. record { fits = λ xs fits low. (fits.0, some_by P may xs fits.1 low) };
  none = λ P. record { fits = λ xs is low. is };
  one = λ P Q. record { fits = one_by P Q };
  first = λ still P Q. record { fits = first_by P Q still };
  or_none = λ a e empty P. record { fits = or_none_by P a };
  make = λ tokens height_of tree P said rated. record { fits = made_by height_of tree P rated };
  good = λ test P. record { fits = λ a fits low. (P.fits a fits.0 low, fits.1) };
  good_tokens = λ test same P. record { fits = λ a fits low. (P.fits a fits.0 low, ap test (sym (same a)) ∙ fits.1) };
  node = λ P. record { fits = λ a fits low. P.fits a fits (omega arith) };
  rated = λ e P. record { fits = λ a fits low. P.fits a fits (same_by (sym (e a)) low) };
  right = λ b. record { fits = λ a fits low. fits };
  right_then = λ b Q. record { fits = λ x fits low. (fits.0, Q.fits x.1 fits.1 low) };
  closing = λ P Q. record { fits = λ x fits low. (P.fits x.0 fits.0 (omega arith), Q.fits x.1 fits.1 (omega arith)) };
  left = λ b Q. record { fits = λ x fits low. (fits.0, Q.fits x.1 fits.1 low) };
  closing_rated = λ e P. record { fits = λ a fits low. P.fits a fits (same_by (sym (e a)) low) };
  under = λ e. tt;
  wide = λ Others other e P. record { fits = λ a fits low. inl (P.fits a fits low) };
  narrow = λ Others other e P high. record { fits = narrow_by P Others high };
  high = λ e high. record { fits = λ a fits low. absurd (high a fits low) };
}
