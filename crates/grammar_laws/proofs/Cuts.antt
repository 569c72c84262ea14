-- Two ways to cut one list, and what an outcome tells of its parts.
use Rattle.std.proofs.Common.{◌≡◌, ℕ, ◌<◌, ◌≤◌, ◌⊎◌, inl, inr, List, [], ◌∷◌, ◌++◌, length, Ok, Err, refl, sym, ap, ap₂, subst, ◌∙◌, arith}
use Rattle.std.proofs.lemmas.List.{length-append}
use Rattle.grammar_laws.specs.Readers.{Outcome, Reader, and_then, both_by}

pub data Cut {Token : Type 0} (a u b y : List Token) : Type 0 where
  same : a ≡ b → u ≡ y → Cut a u b y
  longer : (t : Token) (z : List Token) → b ≡ a ++ t ∷ z → u ≡ t ∷ (z ++ y) → Cut a u b y
  shorter : (t : Token) (z : List Token) → a ≡ b ++ t ∷ z → y ≡ t ∷ (z ++ u) → Cut a u b y

abbrev consed : {Token : Type 0} → Token → List Token → List Token
consed t l = t ∷ l

-- of two beginnings of one list, one goes on with the other
pub cut : {Token : Type 0} (a u b y : List Token) → a ++ u ≡ b ++ y → Cut a u b y
cut [] u [] y e = same refl e
cut [] u (t ∷ b) y e = longer t b refl e
cut (t ∷ a) u [] y e = shorter t a refl (sym e)
cut (t ∷ a) u (s ∷ b) y e =
    let heads : t ≡ s = cc in
    let tails : a ++ u ≡ b ++ y = cc in
    elim (cut a u b y tails) [
      | same p q ↦ same (ap₂ consed heads p) q
      | longer r z p q ↦ longer r z (ap₂ consed (sym heads) p) q
      | shorter r z p q ↦ shorter r z (ap₂ consed heads p) q
    ]

pub not_empty : {Token : Type 0} (a : List Token) (t : Token) (z : List Token) → [] ≡ a ++ t ∷ z → ⊥
not_empty [] t z e = absurd cc
not_empty (s ∷ a) t z e = absurd cc

pub no_cons : {Token : Type 0} (t : Token) (z : List Token) → [] ≡ t ∷ z → ⊥
no_cons t z e = absurd cc

pub both_empty : {Token : Type 0} (x y : List Token) → x ++ y ≡ [] → (x ≡ []) × (y ≡ [])
both_empty [] y e = (refl, e)
both_empty (t ∷ x) y e = absurd cc

-- a list behind one that is not empty is shorter
pub fewer : {Token : Type 0} (a b : List Token) (n : ℕ) → (a ≡ [] → ⊥) → length (a ++ b) ≤ n → length b < n
fewer [] b n some h = absurd (some refl)
fewer (t ∷ a) b n some h = omega (arith, length-append a b, h)

-- ---- outcomes

abbrev pub gave : {Token A : Type 0} → A → List Token → Outcome Token A
gave a rest = Ok (a, rest)

abbrev pub failed : {Token A : Type 0} → List Token → Outcome Token A
failed rest = Err rest

abbrev pair : {Token A : Type 0} → A → List Token → A × List Token
pair a rest = (a, rest)

pub same_value : {Token A : Type 0} (a b : A) (r s : List Token) → gave a r ≡ gave b s → a ≡ b
same_value {Token} {A} a b r s e = let p : pair a r ≡ pair b s = cc in ap (λ (x : A × List Token). x.0) p

pub same_rest : {Token A : Type 0} (a b : A) (r s : List Token) → gave a r ≡ gave b s → r ≡ s
same_rest {Token} {A} a b r s e = let p : pair a r ≡ pair b s = cc in ap (λ (x : A × List Token). x.1) p

pub same_fault : {Token A : Type 0} (x y : List Token) → failed {A = A} x ≡ failed y → x ≡ y
same_fault x y e = cc

pub then_ok : {Token A B : Type 0} (r : Outcome Token A) (f : A → Reader Token B) (b : B) (rest : List Token) → and_then r f ≡ Ok (b, rest) → (a : A) × (mid : List Token) × (r ≡ Ok (a, mid)) × (f a mid ≡ Ok (b, rest))
then_ok (Ok (a, mid)) f b rest e = (a, mid, refl, e)
then_ok (Err d) f b rest e = absurd cc

pub then_err : {Token A B : Type 0} (r : Outcome Token A) (f : A → Reader Token B) (rest : List Token) → and_then r f ≡ Err rest → (r ≡ Err rest) ⊎ ((a : A) × (mid : List Token) × (r ≡ Ok (a, mid)) × (f a mid ≡ Err rest))
then_err (Ok (a, mid)) f rest e = inr (a, mid, refl, e)
then_err (Err d) f rest e = inl cc

pub both_ok : {Token A B : Type 0} (p : Reader Token A) (q : A → Reader Token B) (ts : List Token) (x : A × B) (rest : List Token) → both_by p q ts ≡ Ok (x, rest) → (mid : List Token) × (p ts ≡ Ok (x.0, mid)) × (q x.0 mid ≡ Ok (x.1, rest))
both_ok {Token} {A} {B} p q ts x rest e =
    let w = then_ok (p ts) (λ a mid. and_then (q a mid) (λ b rest. Ok ((a, b), rest))) x rest e in
    let v = then_ok (q w.0 w.1) (λ b rest. Ok ((w.0, b), rest)) x rest w.3 in
    let pair : A × B = (w.0, v.0) in
    let x-is : pair ≡ x = same_value pair x v.1 rest v.3 in
    let rest-is : v.1 ≡ rest = same_rest pair x v.1 rest v.3 in
    let a-is : w.0 ≡ x.0 = ap (λ (y : A × B). y.0) x-is in
    let b-is : v.0 ≡ x.1 = ap (λ (y : A × B). y.1) x-is in
    (w.1, w.2 ∙ ap (λ (a : A). gave a w.1) a-is, subst (λ (a : A). q a w.1 ≡ gave x.1 rest) a-is (v.2 ∙ ap₂ (λ (b : B) (r : List Token). gave b r) b-is rest-is))

pub both_err : {Token A B : Type 0} (p : Reader Token A) (q : A → Reader Token B) (ts rest : List Token) → both_by p q ts ≡ Err rest → (p ts ≡ Err rest) ⊎ ((a : A) × (mid : List Token) × (p ts ≡ Ok (a, mid)) × (q a mid ≡ Err rest))
both_err p q ts rest e =
    elim (then_err (p ts) (λ a mid. and_then (q a mid) (λ b rest. Ok ((a, b), rest))) rest e) [
      | inl h ↦ inl h
      | inr w ↦ elim (then_err (q w.0 w.1) (λ b rest. Ok ((w.0, b), rest)) rest w.3) [
        | inl h ↦ inr (w.0, w.1, w.2, h)
        | inr v ↦ absurd cc
      ]
    ]
