-- That a phrase grows with its depth goes with the words of the phrases.
use Rattle.std.proofs.Common.{◌≡◌, ℕ, ◌≤◌, arith, Bool, List, [], ◌∷◌, ◌++◌, Option, None, Some, inl, inr, refl, sym, ap, ap₂, ◌∙◌, subst, flat_map}
use Rattle.std.specs.List.{AllByRecursion}
use Rattle.grammar_laws.specs.Fronts.{Front, JointBy, Several, GoesOn, EachFit, Alone}
use Rattle.grammar_laws.specs.Readers.{always}
use Rattle.dart_token.specs.declared.token.Token.{Token}
use Rattle.dart_syntax.specs.Phrases.{Phrase, seq, seq_if, seq_by, opt, either, rather, perhaps}
use Rattle.dart_syntax.specs.Leaves.{sign}
use Rattle.syntax_measures.specs.Fronts.{Grows, grows}
use Rattle.syntax_measures.proofs.Walk.{Walk}
use Rattle.syntax_measures.proofs.BracketKinds.{left_sign, right_sign}

module _ {A : Type 0} {p q : Phrase A} (P : Grows p q) where
  -- a whole first part of the one is a whole first part of the other, with the same tokens
  joint_begins : (may : A → Bool) (second other : A → Front Token) → ((a : A) (ts : List Token) → second a ts → other a ts) → (ts : List Token) → JointBy p.spelling p.Fits may p.front second ts → JointBy q.spelling q.Fits may q.front other ts
  joint_begins may second other more ts (inl h) = inl (P.begins ts h)
  joint_begins may second other more ts (inr (a, rest, fits, ok, e, h)) = inr (a, rest, P.fits a fits, ok, e ∙ ap (λ l. l ++ rest) (P.same a), more a rest h)

  maybe_same : (x : Option A) → (opt p).spelling x ≡ (opt q).spelling x
  maybe_same None = refl
  maybe_same (Some a) = P.same a

  maybe_fits : (x : Option A) → (opt p).Fits x → (opt q).Fits x
  maybe_fits None fits = tt
  maybe_fits (Some a) fits = P.fits a fits

  all_same : (xs : List A) → flat_map p.spelling xs ≡ flat_map q.spelling xs
  all_same [] = refl
  all_same (x ∷ xs) = ap₂ (λ (l r : List Token). l ++ r) (P.same x) (all_same xs)

  all_fits : (xs : List A) → AllByRecursion p.Fits xs → AllByRecursion q.Fits xs
  all_fits [] fits = tt
  all_fits (x ∷ xs) fits = (P.fits x fits.0, all_fits xs fits.1)

  some_fits : (may : A → Bool) (xs : List A) → EachFit p.Fits may xs → EachFit q.Fits may xs
  some_fits may [] fits = tt
  some_fits may (x ∷ xs) fits = (P.fits x fits.0, fits.1, some_fits may xs fits.2)

  all_go_on : (may : A → Bool) (xs : List A) → AllByRecursion (GoesOn p.Fits may) xs → AllByRecursion (GoesOn q.Fits may) xs
  all_go_on may [] go = tt
  all_go_on may (x ∷ xs) go = ((P.fits x go.0.0, go.0.1), all_go_on may xs go.1)

  all_begin : (may : A → Bool) (ts : List Token) → Several p.spelling p.Fits may p.front ts → Several q.spelling q.Fits may q.front ts
  all_begin may ts (all, rest, go, e, h) = (all, rest, all_go_on may all go, e ∙ ap (λ l. l ++ rest) (all_same all), P.begins rest h)

  or_none_fits : (a : A) (b : A) → (perhaps a p).Fits b → (perhaps a q).Fits b
  or_none_fits a b (inl is) = inl is
  or_none_fits a b (inr fits) = inr (P.fits b fits)

  or_none_begins : (a : A) (ts : List Token) → (perhaps a p).front ts → (perhaps a q).front ts
  or_none_begins a ts (inl h) = inl h
  or_none_begins a ts (inr h) = inr (P.begins ts h)

module _ {A B : Type 0} {p q : Phrase A} {r s : Phrase B} (P : Grows p q) (R : Grows r s) where
  both_same : (x : A × B) → (seq p r).spelling x ≡ (seq q s).spelling x
  both_same x = ap₂ (λ (l r : List Token). l ++ r) (P.same x.0) (R.same x.1)

  both_grow : Grows (seq p r) (seq q s)
  both_grow = record {
    same = both_same;
    fits = λ x fits. (P.fits x.0 fits.0, R.fits x.1 fits.1);
    begins = joint_begins P always (λ _. r.front) (λ _. s.front) (λ a. R.begins);
  }

  both_if_grow : (may : A → Bool) → Grows (seq_if may p r) (seq_if may q s)
  both_if_grow may = record {
    same = both_same;
    fits = λ x fits. ((P.fits x.0 fits.0.0, fits.0.1), R.fits x.1 fits.1);
    begins = joint_begins P may (λ _. r.front) (λ _. s.front) (λ a. R.begins);
  }

by_grow : {A B : Type 0} {p q : Phrase A} (u : B → List Token) (r s : A → Phrase B) → Grows p q → ((a : A) → Grows (r a) (s a)) → Grows (seq_by u p r) (seq_by u q s)
by_grow u r s P Q = record {
  same = λ x. ap (λ l. l ++ u x.1) (P.same x.0);
  fits = λ x fits. (P.fits x.0 fits.0, (Q x.0).fits x.1 fits.1);
  begins = joint_begins P always (λ a. (r a).front) (λ a. (s a).front) (λ a. (Q a).begins);
}

module _ {A : Type 0} {p q r s : Phrase A} (P : Grows p q) (R : Grows r s) where
  one_fits : (a : A) → (either p r).Fits a → (either q s).Fits a
  one_fits a (inl fits) = inl (P.fits a fits)
  one_fits a (inr fits) = inr (R.fits a fits)

  one_begins : (ts : List Token) → (either p r).front ts → (either q s).front ts
  one_begins ts (inl h) = inl (P.begins ts h)
  one_begins ts (inr h) = inr (R.begins ts h)

  -- what was no tree of the first must have none of its tokens still
  first_fits : ((a : A) → r.Fits a → Alone p.spelling p.Fits a → Alone q.spelling q.Fits a) → (a : A) → (rather p r).Fits a → (rather q s).Fits a
  first_fits still a (inl fits) = inl (P.fits a fits)
  first_fits still a (inr (fits, alone)) = inr (R.fits a fits, still a fits alone)

self_grows : {A : Type 0} (p : Phrase A) → Grows p p
self_grows p = record { same = λ a. refl; fits = λ a fits. fits; begins = λ ts h. h }

-- within a depth and a larger one
abbrev pub Larger : ℕ → ℕ → Type 0
Larger n m = n ≤ m

pub grows_walk : Walk (λ m. grows) (λ b m. grows) Larger
grows_walk = record {
  same = λ p rated single. self_grows p;
  empty = λ {q = q} said none. record { same = said; fits = λ a fits. absurd fits; begins = λ ts h. subst q.front (sym h) none };
  both = λ P Q. both_grow P Q;
  both_if = λ may P Q. both_if_grow P Q may;
  both_by = λ {r = r} {s = s} u P Q. by_grow u r s P Q;
  maybe = λ P. record { same = maybe_same P; fits = maybe_fits P; begins = P.begins };
  all = λ P. record { same = all_same P; fits = all_fits P; begins = all_begin P always };
  some = λ may P. record { same = all_same P; fits = λ xs fits. (fits.0, some_fits P may xs fits.1); begins = all_begin P may };
  none = λ P. record { same = all_same P; fits = λ xs is. is; begins = λ ts h. h };
  one = λ P Q. record { same = P.same; fits = one_fits P Q; begins = one_begins P Q };
  first = λ still P Q. record { same = P.same; fits = first_fits P Q still; begins = one_begins P Q };
  or_none = λ a e empty P. record { same = P.same; fits = or_none_fits P a; begins = or_none_begins P a };
  make = λ tokens height_of tree P said rated. record { same = λ b. refl; fits = λ b m. (m.0, P.fits m.0 m.1, m.2); begins = P.begins };
  good = λ test P. record { same = P.same; fits = λ a fits. (P.fits a fits.0, fits.1); begins = P.begins };
  good_tokens = λ test same P. record { same = P.same; fits = λ a fits. (P.fits a fits.0, ap test (sym (P.same a)) ∙ fits.1); begins = λ ts h. (P.begins ts h.0, h.1) };
  node = λ P. P;
  rated = λ e P. P;
  right = λ b. self_grows (sign (right_sign b));
  right_then = λ b Q. both_grow (self_grows (sign (right_sign b))) Q;
  closing = λ P Q. both_grow P Q;
  left = λ b Q. both_grow (self_grows (sign (left_sign b))) Q;
  closing_rated = λ e P. P;
  under = λ e. omega arith;
  wide = λ Others other e P. record { same = P.same; fits = λ a fits. inl (P.fits a fits); begins = λ ts h. inl (P.begins ts h) };
  narrow = λ Others other e P high. absurd (omega arith);
  high = λ e high. absurd (omega arith);
}
