-- The laws of one token.
use Rattle.std.proofs.Common.{◌≡◌, ℕ, Bool, true, false, cond, inl, inr, List, [], ◌∷◌, ◌++◌, Ok, Err, refl, ap, ap₂, subst, ◌∙◌}
use Rattle.grammar_laws.specs.Codes.{has, nowhere}
use Rattle.grammar_laws.specs.Readers.{Outcome, mapped, one}
use Rattle.grammar_laws.specs.Fronts.{Front, OneOf, alone, IsOf}
use Rattle.grammar_laws.specs.Laws.{Stuck, Laws}
use Rattle.grammar_laws.proofs.Codes.{clash, within_self}
use Rattle.grammar_laws.proofs.Cuts.{no_cons, same_value, same_rest, same_fault}
use Rattle.grammar_laws.proofs.Restated.{mapped_laws}

head_is : {Token : Type 0} (a b : Token) (x y : List Token) → a ∷ x ≡ b ∷ y → a ≡ b
head_is a b x y e = cc

tail_is : {Token : Type 0} (a b : Token) (x y : List Token) → a ∷ x ≡ b ∷ y → x ≡ y
tail_is a b x y e = cc

module _ {Token : Type 0} (class_of : Token → ℕ) (codes : List ℕ) where
  abbrev by : Bool → Token → List Token → Outcome Token Token
  by c t ts = cond c (Ok (t, ts)) (Err (t ∷ ts))

  abbrev front : Front Token
  front = OneOf class_of codes

  taken : (c : Bool) (s : Token) (ts : List Token) (t : Token) (rest : List Token) → has codes (class_of s) ≡ c → by c s ts ≡ Ok (t, rest) → IsOf class_of codes t × (s ∷ ts ≡ t ∷ rest)
  taken true s ts t rest c e =
      let is : s ≡ t = same_value s t ts rest e in
      (subst (IsOf class_of codes) is c, ap₂ (λ (h : Token) (l : List Token). h ∷ l) is (same_rest s t ts rest e))
  taken false s ts t rest c e = absurd cc

  sound : (ts : List Token) (t : Token) (rest : List Token) → one class_of codes ts ≡ Ok (t, rest) → IsOf class_of codes t × (ts ≡ t ∷ rest)
  sound [] t rest e = absurd cc
  sound (s ∷ ts) t rest e = taken (has codes (class_of s)) s ts t rest refl e

  two_not : (a b : Token) → front (a ∷ b ∷ []) → ⊥
  two_not a b (inl e) = absurd cc
  two_not a b (inr w) = let e : b ∷ [] ≡ [] = tail_is a w.0 (b ∷ []) [] w.1 in absurd cc

  firsts : (t : Token) (ts : List Token) → front (t ∷ ts) → has codes (class_of t) ≡ true
  firsts t ts (inl e) = absurd cc
  firsts t ts (inr w) = ap (λ (k : Token). has codes (class_of k)) (head_is t w.0 ts [] w.1) ∙ w.2

  left : (c : Bool) (s : Token) (ts rest : List Token) → has codes (class_of s) ≡ c → by c s ts ≡ Err rest → Stuck front (s ∷ ts) rest
  left true s ts rest c e = absurd cc
  left false s ts rest c e =
      let is : s ∷ ts ≡ rest = same_fault {A = Token} (s ∷ ts) rest e in
      ([], is, inl refl, λ t more j f. clash (has codes (class_of s)) (ap (λ (k : Token). has codes (class_of k)) (head_is s t ts more (is ∙ j)) ∙ firsts t [] f) c)

  fault : (ts rest : List Token) → one class_of codes ts ≡ Err rest → Stuck front ts rest
  fault [] rest e = let is : [] ≡ rest = same_fault {A = Token} [] rest e in ([], is, inl refl, λ t more j f. no_cons t more (is ∙ j))
  fault (s ∷ ts) rest e = left (has codes (class_of s)) s ts rest refl e

  closed : (x y : List Token) → front (x ++ y) → front x
  closed [] y h = inl refl
  closed (t ∷ []) y h = inr (t, refl, firsts t y h)
  closed (t ∷ s ∷ x) y (inl e) = absurd cc
  closed (t ∷ s ∷ x) y (inr w) = let e : s ∷ (x ++ y) ≡ [] = tail_is t w.0 (s ∷ (x ++ y)) [] w.1 in absurd cc

  -- a token of one of these codes
  pub one_laws : Laws class_of (one class_of codes) alone (IsOf class_of codes) (OneOf class_of codes) codes nowhere false
  one_laws = record {
    sound = sound;
    longest = λ ts a t rest e h. two_not a t h;
    fault = fault;
    complete = λ a rest fits s. rw fits refl;
    whole = λ a fits. inr (a, refl, fits);
    none = inl refl;
    closed = closed;
    firsts = firsts;
    nexts = λ a t ts fits h. absurd (two_not a t (closed (a ∷ t ∷ []) ts h));
    empties = λ a fits e. absurd cc;
  }

  -- the same where the tree keeps a part of the token, from which the token can be written again
  pub word_laws : {B : Type 0} (f : Token → B) (g : B → Token) {Fits : B → Type 0} →
      ((t : Token) → IsOf class_of codes t → Fits (f t) × (g (f t) ≡ t)) → ((b : B) → Fits b → IsOf class_of codes (g b) × (f (g b) ≡ b)) →
      Laws class_of (mapped f (one class_of codes)) (λ b. g b ∷ []) Fits (OneOf class_of codes) codes nowhere false
  word_laws f g forth back = mapped_laws one_laws f (λ b. g b ∷ []) nowhere (λ t fits. let w = forth t fits in (w.0, ap alone w.1, within_self [])) (λ b fits. let w = back b fits in (g b, w.0, w.1))
