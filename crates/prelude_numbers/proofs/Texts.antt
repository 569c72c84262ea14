-- The number of a name in a table without repetitions.
use Rattle.std.proofs.Common.{◌≡◌, ℕ, zero, suc, List, [], ◌∷◌, length, slice_get, Some, Bool, true, false, cond, bytes_eq, Contains, refl, sym, ap, ◌∙◌, arith}
use Rattle.std.proofs.lemmas.Slice.Eq.{bytes_eq-Decides}
use Rattle.dart_base.specs.Names.{AreDistinct}
use Rattle.evaluation.specs.Prelude.{name_number}

-- the first name decides
first : (name text : List ℕ) (more : ℕ) → name ≡ text → cond (bytes_eq name text) 0 more ≡ 0
first name text more same = ap (λ (b : Bool). cond b 0 more) ((bytes_eq-Decides name text).1 same)

later : (name text : List ℕ) (more : ℕ) → (name ≡ text → ⊥) → cond (bytes_eq name text) 0 more ≡ more
later name text more other = by (bytes_eq name text) refl
  where
    by : (b : Bool) → bytes_eq name text ≡ b → cond b 0 more ≡ more
    by true e = absurd (other ((bytes_eq-Decides name text).0 e))
    by false e = refl

tail : (name : List ℕ) (names : List (List ℕ)) → AreDistinct (name ∷ names) → AreDistinct names
tail name names distinct i j text at_i at_j = omega (arith, distinct (suc i) (suc j) text at_i at_j)

pub found : (names : List (List ℕ)) (text : List ℕ) (n : ℕ) → AreDistinct names → slice_get names n ≡ Some text → n ≡ name_number names text
found [] text n distinct is = cc
found (name ∷ names) text zero distinct is = sym (first name text _ (cc))
found (name ∷ names) text (suc n) distinct is =
    ap suc (found names text n (tail name names distinct) is)
    ∙ sym (later name text _ (λ same. omega (arith, distinct 0 (suc n) text (ap Some same) is)))

pub absent : (names : List (List ℕ)) (text : List ℕ) → (Contains names text → ⊥) → length names ≡ name_number names text
absent [] text none = refl
absent (name ∷ names) text none =
    ap suc (absent names text (λ there. none (suc there.0, omega arith, there.2)))
    ∙ sym (later name text _ (λ same. none (0, omega arith, same)))
