-- The laws of a second try where what goes on behind both kinds is told by the same codes, and the first kind has codes too.
use Rattle.std.proofs.Common.{◌≡◌, ℕ, Bool, true, false, inl, inr, List, [], ◌∷◌, ◌++◌, length, Ok, Err, refl, sym, ap, subst, ◌∙◌, ltb}
use Rattle.grammar_laws.specs.Codes.{has, Within}
use Rattle.grammar_laws.specs.Readers.{Outcome, Reader, farther, tried}
use Rattle.grammar_laws.specs.Fronts.{Front, Either, Alone, FirstFit}
use Rattle.grammar_laws.specs.Laws.{Stops, Stuck, Laws}
use Rattle.grammar_laws.proofs.Codes.{has_left, has_right}
use Rattle.grammar_laws.proofs.Cuts.{same, longer, shorter, cut}
use Rattle.grammar_laws.proofs.Joints.{stops_within}
use Rattle.grammar_laws.proofs.Tried.{stops_nowhere, by_length, never_ok, later_fault}

-- `still`: where both kinds have a tree of the same tokens, nothing goes on behind the first
module _ {Token : Type 0} {class_of : Token → ℕ} {A : Type 0} {spell : A → List Token} {next : A → List ℕ}
    {p : Reader Token A} {Fits_p : A → Type 0} {front_p : Front Token} {first_p : List ℕ} (P : Laws class_of p spell Fits_p front_p first_p next false)
    {q : Reader Token A} {Fits_q : A → Type 0} {front_q : Front Token} {first_q : List ℕ} (Q : Laws class_of q spell Fits_q front_q first_q next false)
    (still : (a b : A) → Fits_p a → Fits_q b → spell a ≡ spell b → Within (next a) [])
    (over_p : (a : A) (t : Token) (ts : List Token) → Fits_p a → front_q (spell a ++ t ∷ ts) → ⊥)
    (over_q : (b : A) (t : Token) (ts : List Token) → Fits_q b → front_p (spell b ++ t ∷ ts) → ⊥) where
  abbrev Fit : A → Type 0
  Fit = FirstFit spell Fits_p Fits_q

  abbrev front : Front Token
  front = Either front_p front_q

  data Result_of (ts : List Token) (o : Outcome Token A) : Type 0 where
    by_first : (a : A) (rest : List Token) → p ts ≡ Ok (a, rest) → o ≡ Ok (a, rest) → Result_of ts o
    by_second : (d : List Token) (b : A) (rest : List Token) → p ts ≡ Err d → q ts ≡ Ok (b, rest) → o ≡ Ok (b, rest) → Result_of ts o
    by_none : (d e : List Token) → p ts ≡ Err d → q ts ≡ Err e → o ≡ by_length (ltb (length d) (length e)) d e → Result_of ts o

  result_of : (ts : List Token) (r s : Outcome Token A) → p ts ≡ r → q ts ≡ s → Result_of ts (farther r s)
  result_of ts (Ok (a, rest)) s e f = by_first a rest e refl
  result_of ts (Err d) (Ok (b, rest)) e f = by_second d b rest e f refl
  result_of ts (Err d) (Err g) e f = by_none d g e f refl

  of : (ts : List Token) → Result_of ts (tried p q ts)
  of ts = result_of ts (p ts) (q ts) refl refl

  sound : (ts : List Token) (a : A) (rest : List Token) → tried p q ts ≡ Ok (a, rest) → Fit a × (ts ≡ spell a ++ rest)
  sound ts a rest h =
      elim (of ts) as (λ _. Fit a × (ts ≡ spell a ++ rest)) [
        | by_first b r e o ↦ let l = P.sound ts a rest (e ∙ sym o ∙ h) in (inl l.0, l.1)
        | by_second d b r e f o ↦
            let l = Q.sound ts a rest (f ∙ sym o ∙ h) in (
              inr (
                l.0,
                λ other fits is.
                    let reads = P.complete other rest fits (stops_within class_of (next other) [] (still other a fits l.0 is).in_second rest (stops_nowhere class_of rest)) in
                    let never : p ts ≡ Ok (other, rest) = ap p (l.1 ∙ ap (λ (m : List Token). m ++ rest) (sym is)) ∙ reads in
                    cc,
              ),
              l.1,
            )
        | by_none d e f g o ↦ absurd (never_ok (ltb (length d) (length e)) d e (a, rest) (sym o ∙ h))
      ]

  longest : (ts : List Token) (a : A) (t : Token) (rest : List Token) → tried p q ts ≡ Ok (a, t ∷ rest) → front (spell a ++ t ∷ []) → ⊥
  longest ts a t rest h j =
      elim (of ts) as (λ _. ⊥) [
        | by_first b r e o ↦
            let e' = e ∙ sym o ∙ h in
            let l = P.sound ts a (t ∷ rest) e' in
            elim j as (λ _. ⊥) [ inl k ↦ P.longest ts a t rest e' k | inr k ↦ over_p a t [] l.0 k ]
        | by_second d b r e f o ↦
            let f' = f ∙ sym o ∙ h in
            let l = Q.sound ts a (t ∷ rest) f' in
            elim j as (λ _. ⊥) [ inl k ↦ over_q a t [] l.0 k | inr k ↦ Q.longest ts a t rest f' k ]
        | by_none d e f g o ↦ never_ok (ltb (length d) (length e)) d e (a, t ∷ rest) (sym o ∙ h)
      ]

  fault : (ts rest : List Token) → tried p q ts ≡ Err rest → Stuck front ts rest
  fault ts rest h =
      elim (of ts) as (λ _. Stuck front ts rest) [
        | by_first b r e o ↦ let no = sym o ∙ h in absurd cc
        | by_second d b r e f o ↦ let no = sym o ∙ h in absurd cc
        | by_none d e f g o ↦ later_fault P Q ts d e rest (ltb (length d) (length e)) refl f g (sym o ∙ h)
      ]

  first_never : (b : A) (rest : List Token) → Fits_q b → Alone spell Fits_p b → (a : A) (r : List Token) → p (spell b ++ rest) ≡ Ok (a, r) → ⊥
  first_never b rest fits alone a r e =
      let l = P.sound (spell b ++ rest) a r e in
      elim (cut (spell b) rest (spell a) r l.1) as (λ _. ⊥) [
        | same x y ↦ alone a l.0 (sym x)
        | longer s z x y ↦ over_q b s z fits (subst front_p x (P.whole a l.0))
        | shorter s z x y ↦ over_p a s z l.0 (subst front_q x (Q.whole b fits))
      ]

  complete : (a : A) (rest : List Token) → Fit a → Stops class_of (next a) rest → tried p q (spell a ++ rest) ≡ Ok (a, rest)
  complete a rest (inl fits) s = rw (P.complete a rest fits s) refl
  complete a rest (inr fits) s = go (p (spell a ++ rest)) refl where
    go : (r : Outcome Token A) → p (spell a ++ rest) ≡ r → farther r (q (spell a ++ rest)) ≡ Ok (a, rest)
    go (Ok (b, r)) e = absurd (first_never a rest fits.0 fits.1 b r e)
    go (Err d) e = rw (Q.complete a rest fits.0 s) refl

  whole : (a : A) → Fit a → front (spell a)
  whole a (inl fits) = inl (P.whole a fits)
  whole a (inr fits) = inr (Q.whole a fits.0)

  closed : (x y : List Token) → front (x ++ y) → front x
  closed x y (inl h) = inl (P.closed x y h)
  closed x y (inr h) = inr (Q.closed x y h)

  firsts : (t : Token) (ts : List Token) → front (t ∷ ts) → has (first_p ++ first_q) (class_of t) ≡ true
  firsts t ts (inl h) = has_left first_p _ (class_of t) (P.firsts t ts h)
  firsts t ts (inr h) = has_right first_p _ (class_of t) (Q.firsts t ts h)

  nexts : (a : A) (t : Token) (ts : List Token) → Fit a → front (spell a ++ t ∷ ts) → has (next a) (class_of t) ≡ true
  nexts a t ts (inl fits) (inl h) = P.nexts a t ts fits h
  nexts a t ts (inl fits) (inr h) = absurd (over_p a t ts fits h)
  nexts a t ts (inr fits) (inl h) = absurd (over_q a t ts fits.0 h)
  nexts a t ts (inr fits) (inr h) = Q.nexts a t ts fits.0 h

  empties : (a : A) → Fit a → spell a ≡ [] → false ≡ true
  empties a (inl fits) e = P.empties a fits e
  empties a (inr fits) e = Q.empties a fits.0 e

  pub tried_alike_laws : Laws class_of (tried p q) spell (FirstFit spell Fits_p Fits_q) (Either front_p front_q) (first_p ++ first_q) next false
  tried_alike_laws = record {
    sound = sound;
    longest = longest;
    fault = fault;
    complete = complete;
    whole = whole;
    none = inl P.none;
    closed = closed;
    firsts = firsts;
    nexts = nexts;
    empties = empties;
  }
