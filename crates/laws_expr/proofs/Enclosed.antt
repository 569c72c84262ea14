-- That a tree closes each bracket that it opens, and no other, and that what begins one closes none but those: this goes with the words
-- of the phrases.
use Rattle.std.proofs.Common.{◌≡◌, ℕ, suc, arith, Bool, true, false, List, [], ◌∷◌, ◌++◌, Option, None, Some, inl, inr, refl, sym, ap, ap₂, ◌∙◌, ◌⊎◌, subst, append_assoc, flat_map}
use Rattle.std.specs.List.{AllByRecursion}
use Rattle.dart_base.specs.declared.place.Place.{Place}
use Rattle.dart_token.specs.declared.token.Token.{Token}
use Rattle.dart_token.specs.declared.token.TokenKind.TheVariants as tk
use Rattle.dart_token.specs.declared.sign.Sign.{Sign}
use Rattle.dart_token.specs.declared.sign.Sign.TheVariants as s
use Rattle.dart_tree.specs.LeafTokens.{sign_at}
use Rattle.grammar_laws.specs.Codes.{has}
use Rattle.grammar_laws.specs.Fronts.{Front, JointBy, Several, GoesOn, Made, EachFit, OptionFit, both_spelling, option_spelling}
use Rattle.grammar_laws.specs.Readers.{always}
use Rattle.grammar_laws.proofs.Codes.{clash, has_cases, not_true}
use Rattle.dart_syntax.specs.Phrases.{Phrase, either, rather, perhaps, seq}
use Rattle.dart_syntax.specs.Leaves.{sign, sign_tokens}
use Rattle.dart_syntax.specs.Statements.{within}
use Rattle.token_codes.specs.Codes.{class_of, sign_code}
use Rattle.token_codes.proofs.Only.{only_sign, sign_class}
use Rattle.syntax_readers.specs.Combinators.{opening, closing, open_behind, behind_open}
use Rattle.syntax_measures.specs.Relations.{Relation, WithinRelate}
use Rattle.syntax_measures.proofs.BracketKinds.{Bracket, parentheses, squares, braces, left_sign, right_sign, is_plain_kind, Plain, Single}
use Rattle.syntax_measures.proofs.Walk.{Walk}
use Rattle.syntax_measures.proofs.WalkStages.{still_at_same, walk_within}

-- as many brackets are open behind these tokens as before them
abbrev pub Even : List Token → Type 0
Even ts = (k : ℕ) (rest : List Token) → behind_open (suc k) (ts ++ rest) ≡ behind_open (suc k) rest

-- the bracket that was open last is closed behind them
abbrev pub Shuts : List Token → Type 0
Shuts ts = (k : ℕ) (rest : List Token) → behind_open (suc (suc k)) (ts ++ rest) ≡ behind_open (suc k) rest

-- some are open behind them still
abbrev pub StaysOpen : ℕ → List Token → Type 0
StaysOpen k ts = (j : ℕ) × ((rest : List Token) → behind_open (suc k) (ts ++ rest) ≡ behind_open (suc j) rest)

pub record Encloses {A : Type 0} (tokens : A → List Token) (p : Phrase A) : Type 0 where
  pub same : (a : A) → p.spelling a ≡ tokens a
  pub within : (a : A) → p.Fits a → Even (tokens a)
  pub begins : (ts : List Token) → p.front ts → (k : ℕ) → StaysOpen k ts

-- what closes a bracket that was open before
pub record ShutsOne {A : Type 0} (tokens : A → List Token) (p : Phrase A) : Type 0 where
  pub same : (a : A) → p.spelling a ≡ tokens a
  pub within : (a : A) → p.Fits a → Shuts (tokens a)
  pub begins : (ts : List Token) → p.front ts → (k : ℕ) → StaysOpen (suc k) ts

abbrev pub encloses : ℕ → Relation
encloses n A height_of tokens p q = Encloses tokens p

abbrev pub shuts_one : Bracket → ℕ → Relation
shuts_one b n A height_of tokens p q = ShutsOne tokens p

-- ---- single tokens

-- a token with the code of a bracket is that bracket
bracket_kind : (x : Sign) (t : Token) → has (sign_code x ∷ []) (class_of t) ≡ true → is_plain_kind (tk.Sign x) ≡ is_plain_kind t.kind
bracket_kind x t h = ap (λ (u : Token). is_plain_kind u.kind) (only_sign x t h)

module _ (t : Token) (plain : is_plain_kind t.kind ≡ true) where
  no_code : (x : Sign) → is_plain_kind (tk.Sign x) ≡ false → has (sign_code x ∷ []) (class_of t) ≡ false
  no_code x off = not_true (has (sign_code x ∷ []) (class_of t)) (λ h. clash (is_plain_kind t.kind) plain (sym (bracket_kind x t h) ∙ off))

  no_opening : has opening (class_of t) ≡ false
  no_opening = not_true (has opening (class_of t)) (λ h. elim (has_cases (sign_code s.LeftParenthesis ∷ []) (sign_code s.LeftBracket ∷ sign_code s.LeftBrace ∷ []) (class_of t) h) [
    | inl k ↦ clash (has (sign_code s.LeftParenthesis ∷ []) (class_of t)) k (no_code s.LeftParenthesis refl)
    | inr k ↦ elim (has_cases (sign_code s.LeftBracket ∷ []) (sign_code s.LeftBrace ∷ []) (class_of t) k) [
      | inl k ↦ clash (has (sign_code s.LeftBracket ∷ []) (class_of t)) k (no_code s.LeftBracket refl)
      | inr k ↦ clash (has (sign_code s.LeftBrace ∷ []) (class_of t)) k (no_code s.LeftBrace refl)
    ]
  ])

  no_closing : has closing (class_of t) ≡ false
  no_closing = not_true (has closing (class_of t)) (λ h. elim (has_cases (sign_code s.RightParenthesis ∷ []) (sign_code s.RightBracket ∷ sign_code s.RightBrace ∷ []) (class_of t) h) [
    | inl k ↦ clash (has (sign_code s.RightParenthesis ∷ []) (class_of t)) k (no_code s.RightParenthesis refl)
    | inr k ↦ elim (has_cases (sign_code s.RightBracket ∷ []) (sign_code s.RightBrace ∷ []) (class_of t) k) [
      | inl k ↦ clash (has (sign_code s.RightBracket ∷ []) (class_of t)) k (no_code s.RightBracket refl)
      | inr k ↦ clash (has (sign_code s.RightBrace ∷ []) (class_of t)) k (no_code s.RightBrace refl)
    ]
  ])

  plain_step : (n : ℕ) → open_behind n (class_of t) ≡ n
  plain_step n = rw (no_opening, no_closing) refl

plain_even : (ts : List Token) → Plain ts → Even ts
plain_even [] plain k rest = refl
plain_even (t ∷ ts) plain k rest = ap (λ (n : ℕ). behind_open n (ts ++ rest)) (plain_step t plain.0 (suc k)) ∙ plain_even ts plain.1 k rest

left_code : (b : Bracket) (k : ℕ) → open_behind (suc k) (sign_code (left_sign b)) ≡ suc (suc k)
left_code parentheses k = omega arith
left_code squares k = omega arith
left_code braces k = omega arith

right_code : (b : Bracket) (k : ℕ) → open_behind (suc k) (sign_code (right_sign b)) ≡ k
right_code parentheses k = omega arith
right_code squares k = omega arith
right_code braces k = omega arith

pub left_step : (b : Bracket) (place : Place) (k : ℕ) (rest : List Token) → behind_open (suc k) (sign_at place (left_sign b) ∷ rest) ≡ behind_open (suc (suc k)) rest
left_step b place k rest = ap (λ (n : ℕ). behind_open n rest) (ap (open_behind (suc k)) (sign_class (left_sign b) place) ∙ left_code b k)

pub right_step : (b : Bracket) (place : Place) (k : ℕ) (rest : List Token) → behind_open (suc k) (sign_at place (right_sign b) ∷ rest) ≡ behind_open k rest
right_step b place k rest = ap (λ (n : ℕ). behind_open n rest) (ap (open_behind (suc k)) (sign_class (right_sign b) place) ∙ right_code b k)

-- ---- lists

even_append : (xs ys : List Token) → Even xs → Even ys → Even (xs ++ ys)
even_append xs ys X Y k rest = ap (behind_open (suc k)) (append_assoc xs ys rest) ∙ X k (ys ++ rest) ∙ Y k rest

shuts_append : (xs ys : List Token) → Even xs → Shuts ys → Shuts (xs ++ ys)
shuts_append xs ys X Y k rest = ap (behind_open (suc (suc k))) (append_assoc xs ys rest) ∙ X (suc k) (ys ++ rest) ∙ Y k rest

pub nothing_open : (k : ℕ) (ts : List Token) → ts ≡ [] → StaysOpen k ts
nothing_open k ts is = (k, λ rest. ap (λ (m : List Token). behind_open (suc k) (m ++ rest)) is)

even_open : (k : ℕ) (ts : List Token) → Even ts → StaysOpen k ts
even_open k ts even = (k, λ rest. even k rest)

pub behind_even : (k : ℕ) (xs ys ts : List Token) → Even xs → ts ≡ xs ++ ys → StaysOpen k ys → StaysOpen k ts
behind_even k xs ys ts even e (j, stays) = (j, λ rest. ap (λ (m : List Token). behind_open (suc k) (m ++ rest)) e ∙ ap (behind_open (suc k)) (append_assoc xs ys rest) ∙ even k (ys ++ rest) ∙ stays rest)

nothing_even : (ts : List Token) → ts ≡ [] → Even ts
nothing_even ts is k rest = ap (λ (m : List Token). behind_open (suc k) (m ++ rest)) is

single_open : {A : Type 0} (tokens : A → List Token) (p : Phrase A) → Single tokens p → (ts : List Token) → (ts ≡ []) ⊎ ((a : A) × p.Fits a × (ts ≡ tokens a)) → (k : ℕ) → StaysOpen k ts
single_open tokens p single ts (inl is) k = nothing_open k ts is
single_open tokens p single ts (inr (a, fits, is)) k = even_open k ts (subst Even (sym is) (plain_even (tokens a) (single.plain a fits)))

-- ---- the words of the phrases

module _ {A : Type 0} {t : A → List Token} {p : Phrase A} (P : Encloses t p) where
  pub spelled_even : (a : A) → p.Fits a → Even (p.spelling a)
  spelled_even a fits = subst Even (sym (P.same a)) (P.within a fits)

  joint_open : (may : A → Bool) (second : A → Front Token) → ((a : A) (ts : List Token) → second a ts → (k : ℕ) → StaysOpen k ts) → (ts : List Token) → JointBy p.spelling p.Fits may p.front second ts → (k : ℕ) → StaysOpen k ts
  joint_open may second more ts (inl f) k = P.begins ts f k
  joint_open may second more ts (inr (a, rest, fits, on, e, f)) k = behind_even k (p.spelling a) rest ts (spelled_even a fits) e (more a rest f k)

  all_even : (may : A → Bool) (xs : List A) → AllByRecursion (GoesOn p.Fits may) xs → Even (flat_map p.spelling xs)
  all_even may [] go = nothing_even [] refl
  all_even may (x ∷ xs) go = even_append (p.spelling x) (flat_map p.spelling xs) (spelled_even x go.0.0) (all_even may xs go.1)

  several_open : (may : A → Bool) (ts : List Token) → Several p.spelling p.Fits may p.front ts → (k : ℕ) → StaysOpen k ts
  several_open may ts (all, rest, go, e, f) k = behind_even k (flat_map p.spelling all) rest ts (all_even may all go) e (P.begins rest f k)

  maybe_same : (x : Option A) → option_spelling p.spelling x ≡ option_spelling t x
  maybe_same None = refl
  maybe_same (Some a) = P.same a

  maybe_even : (x : Option A) → OptionFit p.Fits x → Even (option_spelling t x)
  maybe_even None fits = nothing_even [] refl
  maybe_even (Some a) fits = P.within a fits

  list_same : (xs : List A) → flat_map p.spelling xs ≡ flat_map t xs
  list_same [] = refl
  list_same (x ∷ xs) = ap₂ (λ (l r : List Token). l ++ r) (P.same x) (list_same xs)

  list_even : (xs : List A) → AllByRecursion p.Fits xs → Even (flat_map t xs)
  list_even [] fits = nothing_even [] refl
  list_even (x ∷ xs) fits = even_append (t x) (flat_map t xs) (P.within x fits.0) (list_even xs fits.1)

  some_even : (may : A → Bool) (xs : List A) → EachFit p.Fits may xs → Even (flat_map t xs)
  some_even may [] fits = nothing_even [] refl
  some_even may (x ∷ xs) fits = even_append (t x) (flat_map t xs) (P.within x fits.0) (some_even may xs fits.2)

  or_none_even : (a : A) → t a ≡ [] → (b : A) → (perhaps a p).Fits b → Even (t b)
  or_none_even a empty b (inl is) = nothing_even (t b) (ap t is ∙ empty)
  or_none_even a empty b (inr fits) = P.within b fits

  or_none_open : (a : A) (ts : List Token) → (perhaps a p).front ts → (k : ℕ) → StaysOpen k ts
  or_none_open a ts (inl is) k = nothing_open k ts is
  or_none_open a ts (inr f) k = P.begins ts f k

module _ {A : Type 0} {t : A → List Token} {p q : Phrase A} (P : Encloses t p) (Q : Encloses t q) where
  one_even : (a : A) → (either p q).Fits a → Even (t a)
  one_even a (inl fits) = P.within a fits
  one_even a (inr fits) = Q.within a fits

  first_even : (a : A) → (rather p q).Fits a → Even (t a)
  first_even a (inl fits) = P.within a fits
  first_even a (inr fits) = Q.within a fits.0

  one_open : (ts : List Token) → (either p q).front ts → (k : ℕ) → StaysOpen k ts
  one_open ts (inl f) k = P.begins ts f k
  one_open ts (inr f) k = Q.begins ts f k

made_even : {A B : Type 0} {t : A → List Token} {p : Phrase A} (tokens : B → List Token) (tree : A → B) → Encloses t p → ((a : A) → tokens (tree a) ≡ t a) → (b : B) → Made tree p.Fits b → Even (tokens b)
made_even tokens tree P said b (a, fits, is) = subst (λ c. Even (tokens c)) is (subst Even (sym (said a)) (P.within a fits))

module _ {A B : Type 0} {t : A → List Token} {p : Phrase A} {r : Phrase B} {u : B → List Token} (P : Encloses t p) where
  both_enclose : (may : A → Bool) → Encloses u r → ((x : A × B) → (seq p r).spelling x ≡ both_spelling t u x) × ((ts : List Token) → JointBy p.spelling p.Fits may p.front (λ a. r.front) ts → (k : ℕ) → StaysOpen k ts)
  both_enclose may R = (λ x. ap₂ (λ (l m : List Token). l ++ m) (P.same x.0) (R.same x.1), joint_open P may (λ a. r.front) (λ a. R.begins))

-- ---- brackets

module _ (b : Bracket) where
  right_open : (ts : List Token) → (sign (right_sign b)).front ts → (k : ℕ) → StaysOpen (suc k) ts
  right_open ts (inl is) k = nothing_open (suc k) ts is
  right_open ts (inr (place, is)) k = (k, λ rest. ap (λ (m : List Token). behind_open (suc (suc k)) (m ++ rest)) is ∙ right_step b place (suc k) rest)

  right_shuts : ShutsOne (sign_tokens (right_sign b)) (sign (right_sign b))
  right_shuts = record { same = λ place. refl; within = λ place fits k rest. right_step b place (suc k) rest; begins = right_open }

  module _ {B : Type 0} {u : B → List Token} {r : Phrase B} where
    then_open : Encloses u r → (ts : List Token) → (seq (sign (right_sign b)) r).front ts → (k : ℕ) → StaysOpen (suc k) ts
    then_open Q ts (inl f) k = right_open ts f k
    then_open Q ts (inr (place, more, at, on, e, f)) k = let w = Q.begins more f k in (w.0, λ rest. ap (λ (m : List Token). behind_open (suc (suc k)) (m ++ rest)) e ∙ right_step b place (suc k) (more ++ rest) ∙ w.1 rest)

    then_shuts : Encloses u r → ShutsOne (both_spelling (sign_tokens (right_sign b)) u) (seq (sign (right_sign b)) r)
    then_shuts Q = record {
      same = λ x. ap (λ (m : List Token). sign_at x.0 (right_sign b) ∷ m) (Q.same x.1);
      within = λ x fits k rest. right_step b x.0 (suc k) (u x.1 ++ rest) ∙ Q.within x.1 fits.1 k rest;
      begins = then_open Q;
    }

    left_open : ShutsOne u r → (ts : List Token) → (seq (sign (left_sign b)) r).front ts → (k : ℕ) → StaysOpen k ts
    left_open Q ts (inl (inl is)) k = nothing_open k ts is
    left_open Q ts (inl (inr (place, is))) k = (suc k, λ rest. ap (λ (m : List Token). behind_open (suc k) (m ++ rest)) is ∙ left_step b place k rest)
    left_open Q ts (inr (place, more, at, on, e, f)) k = let w = Q.begins more f k in (w.0, λ rest. ap (λ (m : List Token). behind_open (suc k) (m ++ rest)) e ∙ left_step b place k (more ++ rest) ∙ w.1 rest)

    left_encloses : ShutsOne u r → Encloses (both_spelling (sign_tokens (left_sign b)) u) (seq (sign (left_sign b)) r)
    left_encloses Q = record {
      same = λ x. ap (λ (m : List Token). sign_at x.0 (left_sign b) ∷ m) (Q.same x.1);
      within = λ x fits k rest. left_step b x.0 k (u x.1 ++ rest) ∙ Q.within x.1 fits.1 k rest;
      begins = left_open Q;
    }

module _ {A B : Type 0} {t : A → List Token} {u : B → List Token} {p : Phrase A} {r : Phrase B} (P : Encloses t p) (Q : ShutsOne u r) where
  closing_open : (ts : List Token) → (seq p r).front ts → (k : ℕ) → StaysOpen (suc k) ts
  closing_open ts (inl f) k = P.begins ts f (suc k)
  closing_open ts (inr (a, rest, fits, on, e, f)) k = behind_even (suc k) (p.spelling a) rest ts (spelled_even P a fits) e (Q.begins rest f k)

  closing_shuts : ShutsOne (both_spelling t u) (seq p r)
  closing_shuts = record {
    same = λ x. ap₂ (λ (l m : List Token). l ++ m) (P.same x.0) (Q.same x.1);
    within = λ x fits. shuts_append (t x.0) (u x.1) (P.within x.0 fits.0) (Q.within x.1 fits.1);
    begins = closing_open;
  }

pub encloses_walk : Walk encloses shuts_one (λ n m. n ≡ m)
encloses_walk = record {
  same = λ {t = t} p rated single. record { same = single.spells; within = λ a fits. plain_even (t a) (single.plain a fits); begins = λ ts f. single_open t p single ts (single.begun ts f) };
  empty = λ said none. record { same = λ a. refl; within = λ a fits. absurd fits; begins = λ ts is k. nothing_open k ts is };
  both = λ {t = t} {u = u} P Q. record { same = (both_enclose P always Q).0; within = λ x fits. even_append (t x.0) (u x.1) (P.within x.0 fits.0) (Q.within x.1 fits.1); begins = (both_enclose P always Q).1 };
  both_if = λ {t = t} {u = u} may P Q. record { same = (both_enclose P may Q).0; within = λ x fits. even_append (t x.0) (u x.1) (P.within x.0 fits.0.0) (Q.within x.1 fits.1); begins = (both_enclose P may Q).1 };
  both_by = λ {t = t} {r = r} u P Q. record { same = λ x. ap (λ (m : List Token). m ++ u x.1) (P.same x.0); within = λ x fits. even_append (t x.0) (u x.1) (P.within x.0 fits.0) ((Q x.0).within x.1 fits.1); begins = joint_open P always (λ a. (r a).front) (λ a. (Q a).begins) };
  maybe = λ P. record { same = maybe_same P; within = maybe_even P; begins = P.begins };
  all = λ P. record { same = list_same P; within = list_even P; begins = several_open P always };
  some = λ may P. record { same = list_same P; within = λ xs fits. some_even P may xs fits.1; begins = several_open P may };
  none = λ {t = t} P. record { same = list_same P; within = λ xs is. nothing_even (flat_map t xs) (ap (flat_map t) is); begins = λ ts is k. nothing_open k ts is };
  one = λ P Q. record { same = P.same; within = one_even P Q; begins = one_open P Q };
  first = λ still P Q. record { same = P.same; within = first_even P Q; begins = one_open P Q };
  or_none = λ a e empty P. record { same = P.same; within = or_none_even P a empty; begins = or_none_open P a };
  make = λ tokens height_of tree P said rated. record { same = λ b. refl; within = made_even tokens tree P said; begins = P.begins };
  good = λ test P. record { same = P.same; within = λ a fits. P.within a fits.0; begins = P.begins };
  good_tokens = λ test same P. record { same = P.same; within = λ a fits. P.within a fits.0; begins = λ ts f. P.begins ts f.0 };
  node = λ P. record { same = P.same; within = P.within; begins = P.begins };
  rated = λ e P. record { same = P.same; within = P.within; begins = P.begins };
  right = right_shuts;
  right_then = λ b Q. then_shuts b Q;
  closing = λ P Q. closing_shuts P Q;
  left = λ b Q. left_encloses b Q;
  closing_rated = λ e P. record { same = P.same; within = P.within; begins = P.begins };
  under = λ e. omega arith;
  wide = λ Others other e P. absurd (omega arith);
  narrow = λ Others other e P high. absurd (omega arith);
  high = λ e high. absurd (omega arith);
}

-- what stands within a depth closes what it opens
pub within_encloses : (n : ℕ) → WithinRelate (encloses n) (within n) (within n)
within_encloses n = walk_within encloses_walk still_at_same n n refl
