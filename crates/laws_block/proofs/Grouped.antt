-- A pair and a third part, or a first part and a pair: the readers and the phrases are one.
use Rattle.std.proofs.Common.{◌≡◌, ℕ, true, false, inl, inr, List, [], ◌∷◌, ◌++◌, Option, Ok, Err, refl, sym, ap, subst, ◌∙◌, append_assoc}
use Rattle.dart_token.specs.declared.token.Token.{Token}
use Rattle.grammar_laws.specs.Codes.{has, nowhere}
use Rattle.grammar_laws.specs.Readers.{Outcome, Reader, and_then, both}
use Rattle.grammar_laws.proofs.Codes.{within_self}
use Rattle.grammar_laws.proofs.Cuts.{same, longer, shorter, cut}
use Rattle.dart_syntax.specs.Phrases.{Phrase, ◌~◌}
use Rattle.token_codes.specs.Codes.{class_of}
use Rattle.token_codes.specs.Reads.{Reads}
use Rattle.laws_block.specs.Begun.{ReadsBegun}
use Rattle.laws_block.proofs.Combined.{made_begun, restated_begun}
use Rattle.laws_block.proofs.Others.{reread_begun}
use Rattle.laws_block.proofs.Regrouped.{regrouped}

module _ {A B C : Type 0} (p : Phrase A) (q : Phrase B) (r : Phrase C) where
  abbrev turn : (A × B) × C → A × (B × C)
  turn x = (x.0.0, (x.0.1, x.1))

  out : (ts : List Token) → ((p ~ q) ~ r).front ts → (p ~ (q ~ r)).front ts
  out ts (inl (inl f)) = inl f
  out ts (inl (inr (a, m, fits, on, e, f))) = inr (a, m, fits, refl, e, inl f)
  out ts (inr ((a, b), m, fits, on, e, f)) = inr (a, q.spelling b ++ m, fits.0, refl, e ∙ append_assoc (p.spelling a) (q.spelling b) m, inr (b, m, fits.1, refl, refl, f))

  abbrev pair : A → B → A × B
  pair a b = (a, b)

  pub into : (ts : List Token) → (p ~ (q ~ r)).front ts → ((p ~ q) ~ r).front ts
  into ts (inl f) = inl (inl f)
  into ts (inr (a, m, fits, on, e, inl f)) = inl (inr (a, m, fits, refl, e, f))
  into ts (inr (a, m, fits, on, e, inr (b, k, fb, go, g, f))) = inr (pair a b, k, (fits, fb), refl, e ∙ ap (λ (l : List Token). p.spelling a ++ l) g ∙ sym (append_assoc (p.spelling a) (q.spelling b) k), f)

  forth : (v : A × (B × C)) → ((w : (A × B) × C) × ((p ~ q) ~ r).Fits w × (turn w ≡ v)) → (p ~ (q ~ r)).Fits v
  forth v (w, fits, e) = subst (p ~ (q ~ r)).Fits e (fits.0.0, (fits.0.1, fits.1))

  back : (v : A × (B × C)) → (p ~ (q ~ r)).Fits v → (w : (A × B) × C) × ((p ~ q) ~ r).Fits w × (turn w ≡ v)
  back v fits = (((v.0, v.1.0), v.1.1), ((fits.0, fits.1.0), fits.1.1), refl)

  plain : (o : Outcome Token (A × (B × C))) → o ≡ and_then o (λ v rest. Ok (v, rest))
  plain (Ok v) = refl
  plain (Err v) = refl

  pub regrouped_begun : (x : Reader Token A) (y : Reader Token B) (z : Reader Token C) (first : List ℕ) (level : C → Option ℕ) (still : C → List ℕ) → ReadsBegun (both (both x y) z) ((p ~ q) ~ r) first (λ v. level v.1) (λ v. still v.1) →
      ReadsBegun (both x (both y z)) (p ~ (q ~ r)) first (λ v. level v.1.1) (λ v. still v.1.1)
  regrouped_begun x y z first level still S = reread_begun (restated_begun (made_begun S turn (p ~ (q ~ r)).spelling (λ v. level v.1.1) (λ v. still v.1.1) (λ v fits. refl) (λ v fits. sym (append_assoc (p.spelling v.0.0) (q.spelling v.0.1) (r.spelling v.1))) (λ v fits. within_self (still v.1)))
      forth back out into (within_self first)) (λ ts. plain (both x (both y z) ts) ∙ sym (regrouped turn x y z ts))

-- behind a first part on which nothing goes on the second one begins
module _ {A B : Type 0} {x : Reader Token A} {p : Phrase A} {first : List ℕ} (P : Reads x p first nowhere false) (q : Phrase B) (none : q.front []) where
  no_next : (a : A) (t : Token) (ts : List Token) → p.Fits a → p.front (p.spelling a ++ t ∷ ts) → ⊥
  no_next a t ts fits f = empty (class_of t) (P.nexts a t ts fits f) where
    empty : (n : ℕ) → has [] n ≡ true → ⊥
    empty n e = cc

  pub behind_first : (a : A) (z : List Token) → p.Fits a → (p ~ q).front (p.spelling a ++ z) → q.front z
  behind_first a [] fits f = none
  behind_first a (t ∷ z) fits (inl f) = absurd (no_next a t z fits f)
  behind_first a (t ∷ z) fits (inr (b, m, fb, on, e, f)) =
      elim (cut (p.spelling a) (t ∷ z) (p.spelling b) m e) as (λ _. q.front (t ∷ z)) [
        | same u v ↦ subst q.front (sym v) f
        | longer s k u v ↦ absurd (no_next a s k fits (subst p.front u (P.whole b fb)))
        | shorter s k u v ↦ absurd (no_next b s k fb (subst p.front u (P.whole a fits)))
      ]
