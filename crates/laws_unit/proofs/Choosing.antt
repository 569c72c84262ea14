-- A reader that chooses one of two by a test gives nearly what a second try of both gives, where the other one stops behind a name at most.
use Rattle.std.proofs.Common.{◌≡◌, ℕ, ◌≤◌, ◌<◌, arith, Bool, true, false, if◌then◌else◌, List, [], ◌∷◌, ◌++◌, length, Ok, Err, ◌⊎◌, inl, inr, refl, sym, ap, ◌∙◌, subst, ltb}
use Rattle.std.proofs.lemmas.Bool.{ltb-true, ltb-false}
use Rattle.std.proofs.lemmas.List.{length-append}
use Rattle.dart_token.specs.declared.token.Token.{Token}
use Rattle.grammar_laws.specs.Codes.{has}
use Rattle.grammar_laws.specs.Readers.{Outcome, Reader, farther}
use Rattle.grammar_laws.specs.Fronts.{Front}
use Rattle.grammar_laws.specs.Laws.{Laws}
use Rattle.grammar_laws.proofs.Codes.{clash}
use Rattle.token_codes.specs.Codes.{class_of, names}

-- ---- a reader that stops behind one token at most

pub data Short (front : Front Token) (mid d : List Token) : Type 0 where
  at_once : d ≡ mid → Short front mid d
  behind_one : (t : Token) → mid ≡ t ∷ d → front (t ∷ []) → Short front mid d

module _ {A : Type 0} {read : Reader Token A} {spell : A → List Token} {Fits : A → Type 0} {front : Front Token} {first : List ℕ} {next : A → List ℕ} (L : Laws class_of read spell Fits front first next false) (mid : List Token)
    (no_one : (a : A) (t : Token) → Fits a → spell a ≡ t ∷ [] → ⊥) (no_two : (t u : Token) (m : List Token) → mid ≡ t ∷ u ∷ m → front (t ∷ u ∷ []) → ⊥) where
  abbrev Ends_early : Outcome Token A → Type 0
  Ends_early o = (d : List Token) × (o ≡ Err d) × Short front mid d

  whole_two : (a : A) (m rest : List Token) → Fits a → spell a ≡ m → mid ≡ m ++ rest → ⊥
  whole_two a [] rest fits is e = clash false (L.empties a fits is) refl
  whole_two a (t ∷ []) rest fits is e = no_one a t fits is
  whole_two a (t ∷ u ∷ m) rest fits is e = no_two t u (m ++ rest) e (L.closed (t ∷ u ∷ []) m (subst front is (L.whole a fits)))

  short_at : (before d : List Token) → mid ≡ before ++ d → front before → Short front mid d
  short_at [] d e f = at_once (sym e)
  short_at (t ∷ []) d e f = behind_one t e f
  short_at (t ∷ u ∷ m) d e f = absurd (no_two t u (m ++ d) e (L.closed (t ∷ u ∷ []) m f))

  pub short : (o : Outcome Token A) → read mid ≡ o → Ends_early o
  short (Ok (a, rest)) h = let l = L.sound mid a rest h in absurd (whole_two a (spell a) rest l.0 refl l.1)
  short (Err d) h = let k = L.fault mid d h in (d, refl, short_at k.0 d k.1 k.2)

-- ---- two readers of which a test chooses one, and a second try of both

-- the same outcome, or a fault at the first token, which is a name, and one behind it
pub data Near {A : Type 0} (mid : List Token) (x y : Outcome Token A) : Type 0 where
  alike : x ≡ y → Near mid x y
  behind : (t : Token) (e : List Token) → mid ≡ t ∷ e → has names (class_of t) ≡ true → x ≡ Err mid → y ≡ Err e → Near mid x y

module _ {A : Type 0} {p q : Reader Token A} {spell : A → List Token} {Fits_p Fits_q : A → Type 0} {front_p front_q : Front Token} {first_p first_q : List ℕ} {next_p next_q : A → List ℕ}
    (P : Laws class_of p spell Fits_p front_p first_p next_p false) (Q : Laws class_of q spell Fits_q front_q first_q next_q false) (mid : List Token) where
  abbrev later : Bool → List Token → List Token → Outcome Token A
  later b d e = if b then Err d else Err e

  -- what is left is the list, or what stands behind its first token, or less
  left_over : (before d e : List Token) (t : Token) → mid ≡ before ++ d → mid ≡ t ∷ e → length e ≤ length d → (d ≡ mid) ⊎ (d ≡ e)
  left_over [] d e t is at le = inl (sym is)
  left_over (s ∷ []) d e t is at le = let same : d ≡ e = cons_is s t d e (sym is ∙ at) in inr same where
    cons_is : (a b : Token) (x y : List Token) → a ∷ x ≡ b ∷ y → x ≡ y
    cons_is a b x y h = cc
  left_over (s ∷ u ∷ m) d e t is at le = absurd (omega (arith, le, ap length is, ap length at, length-append m d))

  not_less : (before d : List Token) → mid ≡ before ++ d → length mid < length d → ⊥
  not_less before d is less = omega (arith, less, ap length is, length-append before d)

  first_or : (d e : List Token) (b : Bool) → p mid ≡ Err d → Short front_q mid e → ((t : Token) (m : List Token) → mid ≡ t ∷ m → front_q (t ∷ []) → has names (class_of t) ≡ true) → ltb (length d) (length e) ≡ b → Near mid (Err d) (later b d e)
  first_or d e true h s name less = alike refl
  first_or d e false h (at_once is) name less =
      let k = P.fault mid d h in
      let le : length e ≤ length d = ltb-false (length d) (length e) less in
      alike (ap (λ (m : List Token). Err m) (all_of k.0 k.1 le)) where
        all_of : (before : List Token) → mid ≡ before ++ d → length e ≤ length d → d ≡ e
        all_of [] at le = sym at ∙ sym is
        all_of (u ∷ m) at le = absurd (omega (arith, le, ap length is, ap length at, length-append m d))
  first_or d e false h (behind_one t at f) name less =
      let k = P.fault mid d h in
      elim (left_over k.0 d e t k.1 at (ltb-false (length d) (length e) less)) [
        | inl is ↦ behind t e at (name t e at f) (ap (λ (m : List Token). Err m) is) refl
        | inr is ↦ alike (ap (λ (m : List Token). Err m) is)
      ]

  -- the first is chosen, and the second stops at once
  pub near_first : ((t : Token) (m : List Token) → mid ≡ t ∷ m → front_q (t ∷ []) → has names (class_of t) ≡ true) → (x : Outcome Token A) → p mid ≡ x → (e : List Token) → Short front_q mid e → Near mid x (farther x (Err e))
  near_first name (Ok z) h e s = alike refl
  near_first name (Err d) h e s = first_or d e (ltb (length d) (length e)) h s name refl

  second_or : (d e : List Token) (b : Bool) → q mid ≡ Err e → Short front_p mid d → ((t : Token) (m : List Token) → mid ≡ t ∷ m → front_p (t ∷ []) → has names (class_of t) ≡ true) → ltb (length d) (length e) ≡ b → Near mid (Err e) (later b d e)
  second_or d e false h s name less = alike refl
  second_or d e true h (at_once is) name less =
      let k = Q.fault mid e h in
      let longer : length d < length e = ltb-true (length d) (length e) less in
      absurd (not_less k.0 e k.1 (omega (arith, longer, ap length is)))
  second_or d e true h (behind_one t at f) name less =
      let k = Q.fault mid e h in
      let longer : length d < length e = ltb-true (length d) (length e) less in
      elim (left_over k.0 e d t k.1 at (omega (arith, longer))) [
        | inl is ↦ behind t d at (name t d at f) (ap (λ (m : List Token). Err m) is) refl
        | inr is ↦ absurd (omega (arith, longer, ap length is))
      ]

  -- the second is chosen, and the first stops at once
  pub near_second : ((t : Token) (m : List Token) → mid ≡ t ∷ m → front_p (t ∷ []) → has names (class_of t) ≡ true) → (y : Outcome Token A) → q mid ≡ y → (d : List Token) → Short front_p mid d → Near mid y (farther (Err d) y)
  near_second name (Ok z) h d s = alike refl
  near_second name (Err e) h d s = second_or d e (ltb (length d) (length e)) h s name refl
