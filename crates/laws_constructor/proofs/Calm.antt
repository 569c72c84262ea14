-- Lists of tokens in which, behind each brace that closes outside all other brackets, one of `behind_init` stands or the list ends; and phrases by the
-- lists that they make so.
use Rattle.std.proofs.Common.{◌≡◌, ℕ, zero, suc, arith, Bool, true, false, ◌&&◌, List, [], ◌∷◌, ◌++◌, Option, None, Some, ◌⊎◌, inl, inr, refl, sym, ap, ap₂, ◌∙◌, subst, append_assoc, flat_map}
use Rattle.std.proofs.lemmas.List.{append-nil}
use Rattle.std.specs.List.{AllByRecursion}
use Rattle.dart_base.specs.declared.place.Place.{Place}
use Rattle.dart_token.specs.declared.token.Token.{Token}
use Rattle.dart_token.specs.declared.sign.Sign.TheVariants as s
use Rattle.dart_tree.specs.LeafTokens.{sign_at}
use Rattle.grammar_laws.specs.Codes.{has}
use Rattle.grammar_laws.specs.Fronts.{JointBy, Several, GoesOn, Made, EachFit, OptionFit, both_spelling, option_spelling}
use Rattle.grammar_laws.specs.Readers.{always}
use Rattle.grammar_laws.proofs.Codes.{and_both, inside}
use Rattle.dart_syntax.specs.Phrases.{Phrase, LeafFront, exactly, no_room, seq, seq_if, opt, many, some_if, either, made, such, leaf}
use Rattle.dart_syntax.specs.Leaves.{sign, sign_tokens}
use Rattle.token_codes.specs.Codes.{class_of, sign_code, these}
use Rattle.token_codes.proofs.Only.{sign_class}
use Rattle.syntax_readers.specs.Combinators.{opening, open_behind, behind_open, behind_brackets}
use Rattle.syntax_readers.specs.Declarations.{behind_init}
use Rattle.syntax_measures.proofs.BracketKinds.{Bracket, parentheses, squares, braces, left_sign, right_sign}
use Rattle.laws_expr.proofs.Enclosed.{Even, Encloses, spelled_even, right_step}
use Rattle.laws_constructor.proofs.Nesting.{even_steps, opened}

-- behind a brace that closed
abbrev pub allowed : Bool → ℕ → Bool
allowed false code = true
allowed true code = has behind_init code

-- with so many brackets open, and whether the outermost of them, or the one that closed last, is a brace
abbrev pub calm : ℕ → Bool → List Token → Bool
calm n b [] = true
calm zero b (t ∷ ts) = allowed b (class_of t) && calm (open_behind 0 (class_of t)) (has (these s.LeftBrace) (class_of t)) ts
calm (suc n) b (t ∷ ts) = calm (open_behind (suc n) (class_of t)) b ts

pub calm_on : (b : Bool) (t : Token) (ts : List Token) → allowed b (class_of t) ≡ true → calm (open_behind 0 (class_of t)) (has (these s.LeftBrace) (class_of t)) ts ≡ true → calm 0 b (t ∷ ts) ≡ true
calm_on b t ts h k = ap₂ (λ (x y : Bool). x && y) h k

pub calm_parts : (b : Bool) (t : Token) (ts : List Token) → calm 0 b (t ∷ ts) ≡ true → (allowed b (class_of t) ≡ true) × (calm (open_behind 0 (class_of t)) (has (these s.LeftBrace) (class_of t)) ts ≡ true)
calm_parts b t ts h = and_both (allowed b (class_of t)) (calm (open_behind 0 (class_of t)) (has (these s.LeftBrace) (class_of t)) ts) h

calm_less : (ts : List Token) → calm 0 true ts ≡ true → calm 0 false ts ≡ true
calm_less [] h = refl
calm_less (t ∷ ts) h = calm_on false t ts refl (calm_parts true t ts h).1

-- within brackets only what closes them counts
pub calm_open : (n : ℕ) (b : Bool) (ts : List Token) → calm n b ts ≡ calm 0 b (behind_open n ts)
calm_open zero b ts = refl
calm_open (suc n) b [] = refl
calm_open (suc n) b (t ∷ ts) = calm_open (open_behind (suc n) (class_of t)) b ts

-- from behind a brace or not, to where a brace may have closed or not
pub record Leads (from to : Bool) {A : Type 0} (tokens : A → List Token) (p : Phrase A) : Type 0 where
  pub same : (a : A) → p.spelling a ≡ tokens a
  pub ends : (a : A) → p.Fits a → (rest : List Token) → calm 0 to rest ≡ true → calm 0 from (tokens a ++ rest) ≡ true
  pub holds : (ts : List Token) → p.front ts → calm 0 from ts ≡ true

-- the same of the trees that pass a test
pub record When (from to : Bool) {A : Type 0} (may : A → Bool) (tokens : A → List Token) (p : Phrase A) : Type 0 where
  pub same : (a : A) → p.spelling a ≡ tokens a
  pub ends : (a : A) → p.Fits a → may a ≡ true → (rest : List Token) → calm 0 to rest ≡ true → calm 0 from (tokens a ++ rest) ≡ true
  pub holds : (ts : List Token) → p.front ts → calm 0 from ts ≡ true

-- ---- weaker ones

module _ {A : Type 0} {t : A → List Token} {p : Phrase A} where
  pub early : {to : Bool} → Leads true to t p → Leads false to t p
  early P = record { same = P.same; ends = λ a fits rest k. calm_less (t a ++ rest) (P.ends a fits rest k); holds = λ ts f. calm_less ts (P.holds ts f) }

  pub late : {from : Bool} → Leads from false t p → Leads from true t p
  late P = record { same = P.same; ends = λ a fits rest k. P.ends a fits rest (calm_less rest k); holds = P.holds }

  pub whenever : {from to : Bool} → (may : A → Bool) → Leads from to t p → When from to may t p
  whenever may P = record { same = P.same; ends = λ a fits on. P.ends a fits; holds = P.holds }

-- ---- none, and single tokens

nothing : (from : Bool) (ts : List Token) → ts ≡ [] → calm 0 from ts ≡ true
nothing from ts is = ap (calm 0 from) is

module _ (b : Bool) {A : Type 0} (tokens : A → List Token) where
  pub no_tree : (to : Bool) → Leads b to tokens (no_room tokens)
  no_tree to = record { same = λ a. refl; ends = λ a fits. absurd fits; holds = nothing b }

  pub empty : (spelling : A → List Token) → ((a : A) → spelling a ≡ tokens a) → (a : A) → tokens a ≡ [] → Leads b b tokens (exactly spelling a)
  empty spelling same a none = record { same = same; ends = λ x is rest k. ap (λ m. calm 0 b (m ++ rest)) (ap tokens is ∙ none) ∙ k; holds = nothing b }

-- what opens no bracket
flat_at : (from : Bool) (t : Token) (rest : List Token) (n : ℕ) (h : Bool) → open_behind 0 (class_of t) ≡ n → n ≡ 0 → has (these s.LeftBrace) (class_of t) ≡ h → allowed from (class_of t) ≡ true → calm 0 false rest ≡ true → calm 0 from (t ∷ rest) ≡ true
flat_at from t rest n false e z h on k = calm_on from t rest on (ap₂ (λ (m : ℕ) (b : Bool). calm m b rest) (e ∙ z) h ∙ k)
flat_at from t rest n true e z h on k =
    let some : suc 0 ≡ n = sym (opened 0 (class_of t) ((inside {xs = these s.LeftBrace} {ys = opening} refl).in_second (class_of t) h)) ∙ e in absurd (omega (arith, some, z))

flat : (from : Bool) (t : Token) (rest : List Token) → Even (t ∷ []) → allowed from (class_of t) ≡ true → calm 0 false rest ≡ true → calm 0 from (t ∷ rest) ≡ true
flat from t rest even on k =
    let steps = even_steps (t ∷ []) even in
    flat_at from t rest steps.0 (has (these s.LeftBrace) (class_of t)) steps.1 steps.4 refl on k

-- one token, which may stand there
abbrev pub One : Bool → List Token → Type 0
One from ts = (t : Token) × (ts ≡ t ∷ []) × (allowed from (class_of t) ≡ true)

one_ends : (from : Bool) (ts rest : List Token) → One from ts → Even ts → calm 0 false rest ≡ true → calm 0 from (ts ++ rest) ≡ true
one_ends from ts rest (t, is, on) even k = ap (λ (m : List Token). calm 0 from (m ++ rest)) is ∙ flat from t rest (subst Even is even) on k

module _ (from : Bool) {A : Type 0} (tokens : A → List Token) (E : Encloses tokens (leaf tokens)) (one : (a : A) → One from (tokens a)) where
  leaf_holds : (ts : List Token) → LeafFront tokens ts → calm 0 from ts ≡ true
  leaf_holds ts (inl is) = nothing from ts is
  leaf_holds ts (inr (a, is)) = ap (calm 0 from) (is ∙ sym (append-nil (tokens a))) ∙ one_ends from (tokens a) [] (one a) (E.within a tt) refl

  pub leaf_leads : Leads from false tokens (leaf tokens)
  leaf_leads = record { same = λ a. refl; ends = λ a fits rest k. one_ends from (tokens a) rest (one a) (E.within a tt) k; holds = leaf_holds }

-- ---- brackets

abbrev pub is_brace : Bracket → Bool
is_brace parentheses = false
is_brace squares = false
is_brace braces = true

left_goes : (b : Bracket) → has behind_init (sign_code (left_sign b)) ≡ true
left_goes parentheses = refl
left_goes squares = refl
left_goes braces = refl

left_opens : (b : Bracket) → open_behind 0 (sign_code (left_sign b)) ≡ 1
left_opens parentheses = refl
left_opens squares = refl
left_opens braces = refl

left_brace : (b : Bracket) → has (these s.LeftBrace) (sign_code (left_sign b)) ≡ is_brace b
left_brace parentheses = refl
left_brace squares = refl
left_brace braces = refl

module _ (b : Bracket) where
  -- it begins with this bracket
  abbrev pub Opens : List Token → Type 0
  Opens ts = (place : Place) × (l : List Token) × (ts ≡ sign_at place (left_sign b) ∷ l)

  opens_calm : (place : Place) (l rest : List Token) → behind_brackets (sign_at place (left_sign b) ∷ l) ≡ rest → calm 0 (is_brace b) rest ≡ true → calm 0 true (sign_at place (left_sign b) ∷ l) ≡ true
  opens_calm place l rest e k =
      let code = sign_class (left_sign b) place in
      calm_on true (sign_at place (left_sign b)) l (ap (has behind_init) code ∙ left_goes b)
      (ap₂ (λ (n : ℕ) (h : Bool). calm n h l) (ap (open_behind 0) code ∙ left_opens b) (ap (has (these s.LeftBrace)) code ∙ left_brace b) ∙ calm_open 1 (is_brace b) l ∙ ap (calm 0 (is_brace b)) e ∙ k)

  pub bracket_calm : (ts rest : List Token) → Opens ts → behind_brackets ts ≡ rest → calm 0 (is_brace b) rest ≡ true → calm 0 true ts ≡ true
  bracket_calm ts rest (place, l, is) e k = ap (calm 0 true) is ∙ opens_calm place l rest (ap behind_brackets (sym is) ∙ e) k

  pub bracket_begun : (ts : List Token) → (ts ≡ []) ⊎ Opens ts → behind_brackets ts ≡ [] → calm 0 true ts ≡ true
  bracket_begun ts (inl is) e = nothing true ts is
  bracket_begun ts (inr o) e = bracket_calm ts [] o e refl

  pub left_begun : {B : Type 0} (r : Phrase B) (ts : List Token) → (seq (sign (left_sign b)) r).front ts → (ts ≡ []) ⊎ Opens ts
  left_begun r ts (inl (inl is)) = inl is
  left_begun r ts (inl (inr (place, is))) = inr (place, [], is)
  left_begun r ts (inr (place, more, at, on, e, f)) = inr (place, more, e)

  module _ {A : Type 0} {t : A → List Token} {p : Phrase A} (P : Encloses t p) where
    right_begun : (ts : List Token) → (sign (right_sign b)).front ts → behind_open 1 ts ≡ []
    right_begun ts (inl is) = ap (behind_open 1) is
    right_begun ts (inr (place, is)) = ap (behind_open 1) is ∙ right_step b place 0 []

    inner_begun : (ts : List Token) → (seq p (sign (right_sign b))).front ts → behind_open 1 ts ≡ []
    inner_begun ts (inl f) = ap (behind_open 1) (sym (append-nil ts)) ∙ (P.begins ts f 0).1 []
    inner_begun ts (inr (a, rest, fits, on, e, f)) = ap (behind_open 1) e ∙ spelled_even P a fits 0 rest ∙ right_begun rest f

    whole_begun : (ts : List Token) → (seq (sign (left_sign b)) (seq p (sign (right_sign b)))).front ts → behind_brackets ts ≡ []
    whole_begun ts (inl (inl is)) = ap behind_brackets is
    whole_begun ts (inl (inr (place, is))) = ap behind_brackets is
    whole_begun ts (inr (place, more, at, on, e, f)) = ap behind_brackets e ∙ inner_begun more f

    pub enclosed : Leads true (is_brace b) (both_spelling (sign_tokens (left_sign b)) (both_spelling t (sign_tokens (right_sign b)))) (seq (sign (left_sign b)) (seq p (sign (right_sign b))))
    enclosed = record {
      same = λ x. ap (λ (m : List Token). sign_at x.0 (left_sign b) ∷ (m ++ sign_at x.1.1 (right_sign b) ∷ [])) (P.same x.1.0);
      ends = λ x fits rest k. opens_calm x.0 ((t x.1.0 ++ sign_at x.1.1 (right_sign b) ∷ []) ++ rest) rest
          (ap (behind_open 1) (append_assoc (t x.1.0) (sign_at x.1.1 (right_sign b) ∷ []) rest) ∙ P.within x.1.0 fits.1.0 0 (sign_at x.1.1 (right_sign b) ∷ rest) ∙ right_step b x.1.1 0 rest) k;
      holds = λ ts f. bracket_begun ts (left_begun (seq p (sign (right_sign b))) ts f) (whole_begun ts f);
    }

-- ---- the words of the phrases

module _ {from mid to : Bool} {A B : Type 0} {t : A → List Token} {u : B → List Token} {p : Phrase A} {q : Phrase B} where
  joint_holds : {may : A → Bool} → When from mid may t p → Leads mid to u q → (ts : List Token) → JointBy p.spelling p.Fits may p.front (λ a. q.front) ts → calm 0 from ts ≡ true
  joint_holds P Q ts (inl f) = P.holds ts f
  joint_holds P Q ts (inr (a, rest, fits, on, e, f)) = ap (calm 0 from) (e ∙ ap (λ (m : List Token). m ++ rest) (P.same a)) ∙ P.ends a fits on rest (Q.holds rest f)

  pub both_when : (may : A → Bool) → When from mid may t p → Leads mid to u q → Leads from to (both_spelling t u) (seq_if may p q)
  both_when may P Q = record {
    same = λ x. ap₂ (λ (l m : List Token). l ++ m) (P.same x.0) (Q.same x.1);
    ends = λ x fits rest k. ap (calm 0 from) (append_assoc (t x.0) (u x.1) rest) ∙ P.ends x.0 fits.0.0 fits.0.1 (u x.1 ++ rest) (Q.ends x.1 fits.1 rest k);
    holds = joint_holds P Q;
  }

  pub both_if : (may : A → Bool) → Leads from mid t p → Leads mid to u q → Leads from to (both_spelling t u) (seq_if may p q)
  both_if may P Q = both_when may (whenever may P) Q

  pub both : Leads from mid t p → Leads mid to u q → Leads from to (both_spelling t u) (seq p q)
  both P Q = record {
    same = λ x. ap₂ (λ (l m : List Token). l ++ m) (P.same x.0) (Q.same x.1);
    ends = λ x fits rest k. ap (calm 0 from) (append_assoc (t x.0) (u x.1) rest) ∙ P.ends x.0 fits.0 (u x.1 ++ rest) (Q.ends x.1 fits.1 rest k);
    holds = joint_holds (whenever always P) Q;
  }

module _ {b : Bool} {A : Type 0} {t : A → List Token} {p : Phrase A} (P : Leads b b t p) where
  maybe_same : (x : Option A) → option_spelling p.spelling x ≡ option_spelling t x
  maybe_same None = refl
  maybe_same (Some a) = P.same a

  maybe_ends : (x : Option A) → OptionFit p.Fits x → (rest : List Token) → calm 0 b rest ≡ true → calm 0 b (option_spelling t x ++ rest) ≡ true
  maybe_ends None fits rest k = k
  maybe_ends (Some a) fits rest k = P.ends a fits rest k

  pub maybe : Leads b b (option_spelling t) (opt p)
  maybe = record { same = maybe_same; ends = maybe_ends; holds = P.holds }

  list_same : (xs : List A) → flat_map p.spelling xs ≡ flat_map t xs
  list_same [] = refl
  list_same (x ∷ xs) = ap₂ (λ (l r : List Token). l ++ r) (P.same x) (list_same xs)

  list_ends : (xs : List A) → AllByRecursion p.Fits xs → (rest : List Token) → calm 0 b rest ≡ true → calm 0 b (flat_map t xs ++ rest) ≡ true
  list_ends [] fits rest k = k
  list_ends (x ∷ xs) fits rest k = ap (calm 0 b) (append_assoc (t x) (flat_map t xs) rest) ∙ P.ends x fits.0 (flat_map t xs ++ rest) (list_ends xs fits.1 rest k)

  some_ends : (may : A → Bool) (xs : List A) → EachFit p.Fits may xs → (rest : List Token) → calm 0 b rest ≡ true → calm 0 b (flat_map t xs ++ rest) ≡ true
  some_ends may [] fits rest k = k
  some_ends may (x ∷ xs) fits rest k = ap (calm 0 b) (append_assoc (t x) (flat_map t xs) rest) ∙ P.ends x fits.0 (flat_map t xs ++ rest) (some_ends may xs fits.2 rest k)

  each_ends : (may : A → Bool) (xs : List A) → AllByRecursion (GoesOn p.Fits may) xs → (rest : List Token) → calm 0 b rest ≡ true → calm 0 b (flat_map p.spelling xs ++ rest) ≡ true
  each_ends may [] fits rest k = k
  each_ends may (x ∷ xs) fits rest k = ap (calm 0 b) (append_assoc (p.spelling x) (flat_map p.spelling xs) rest ∙ ap (λ (m : List Token). m ++ (flat_map p.spelling xs ++ rest)) (P.same x)) ∙ P.ends x fits.0.0 (flat_map p.spelling xs ++ rest) (each_ends may xs fits.1 rest k)

  several_holds : (may : A → Bool) (ts : List Token) → Several p.spelling p.Fits may p.front ts → calm 0 b ts ≡ true
  several_holds may ts (all, rest, go, e, f) = ap (calm 0 b) e ∙ each_ends may all go rest (P.holds rest f)

  pub all : Leads b b (flat_map t) (many p)
  all = record { same = list_same; ends = list_ends; holds = several_holds always }

  pub some : (may : A → Bool) → Leads b b (flat_map t) (some_if may p)
  some may = record { same = list_same; ends = λ xs fits. some_ends may xs fits.1; holds = several_holds may }

  pub none : Leads b b (flat_map t) (exactly (flat_map p.spelling) [])
  none = empty b (flat_map t) (flat_map p.spelling) list_same [] refl

module _ {from to : Bool} {A : Type 0} {t : A → List Token} {p : Phrase A} where
  module _ {q : Phrase A} (P : Leads from to t p) (Q : Leads from to t q) where
    one_of_ends : (a : A) → (either p q).Fits a → (rest : List Token) → calm 0 to rest ≡ true → calm 0 from (t a ++ rest) ≡ true
    one_of_ends a (inl fits) = P.ends a fits
    one_of_ends a (inr fits) = Q.ends a fits

    one_of_holds : (ts : List Token) → (either p q).front ts → calm 0 from ts ≡ true
    one_of_holds ts (inl f) = P.holds ts f
    one_of_holds ts (inr f) = Q.holds ts f

    pub one : Leads from to t (either p q)
    one = record { same = P.same; ends = one_of_ends; holds = one_of_holds }

  pub good_when : (may : A → Bool) → When from to may t p → Leads from to t (such may p)
  good_when may P = record { same = P.same; ends = λ a fits. P.ends a fits.0 fits.1; holds = P.holds }

  pub good : (may : A → Bool) → Leads from to t p → Leads from to t (such may p)
  good may P = good_when may (whenever may P)

  module _ {B : Type 0} (tokens : B → List Token) (f : A → B) (P : Leads from to t p) (said : (a : A) → tokens (f a) ≡ t a) where
    made_ends : (b : B) → Made f p.Fits b → (rest : List Token) → calm 0 to rest ≡ true → calm 0 from (tokens b ++ rest) ≡ true
    made_ends b (a, fits, is) rest k = subst (λ c. calm 0 from (tokens c ++ rest) ≡ true) is (ap (λ (m : List Token). calm 0 from (m ++ rest)) (said a) ∙ P.ends a fits rest k)

    pub make : Leads from to tokens (made tokens f p)
    make = record { same = λ b. refl; ends = made_ends; holds = P.holds }
