-- What a front begins with.
use Rattle.std.proofs.Common.{◌≡◌, ℕ, true, List, [], ◌∷◌, ◌⊎◌, inl, inr, refl}
use Rattle.dart_token.specs.declared.token.Token.{Token}
use Rattle.grammar_laws.specs.Codes.{has}
use Rattle.grammar_laws.specs.Readers.{starts}
use Rattle.grammar_laws.specs.Fronts.{Front}
use Rattle.token_codes.specs.Codes.{class_of}

-- a front that some token begins is begun by one of its own
pub front_starts : (xs ys : List ℕ) (front : Front Token) → ((u : Token) (ts : List Token) → front (u ∷ ts) → has ys (class_of u) ≡ true) → (ts : List Token) → front ts → starts class_of xs ts ≡ true → starts class_of ys ts ≡ true
front_starts xs ys front firsts [] f on = absurd cc
front_starts xs ys front firsts (u ∷ ts) f on = firsts u ts f

-- a front has no token, or is begun by one of its own
pub none_or : (ys : List ℕ) (front : Front Token) → ((u : Token) (ts : List Token) → front (u ∷ ts) → has ys (class_of u) ≡ true) → (ts : List Token) → front ts → (ts ≡ []) ⊎ (starts class_of ys ts ≡ true)
none_or ys front firsts [] f = inl refl
none_or ys front firsts (u ∷ ts) f = inr (firsts u ts f)

pub either_map : {X Y Z : Type 0} → (Y → Z) → X ⊎ Y → X ⊎ Z
either_map h (inl x) = inl x
either_map h (inr y) = inr (h y)
