-- How many tokens there are up to what stands behind the bracket that comes, for each token of a list.
use Rattle.std.specs.Prelude.{◌≡◌, ℕ, suc, ◌≤◌, List, [], ◌∷◌, drop, length}
use Rattle.dart_token.specs.declared.token.Token.{Token}
use Rattle.syntax_readers.specs.Combinators.{behind_brackets}

-- each of these numbers leads from its token to behind the bracket that the token opens
abbrev pub Skips : List Token → List ℕ → Type 0
Skips [] skips = Unit {0}
Skips (t ∷ ts) [] = ⊥
Skips (t ∷ ts) (s ∷ skips) = (behind_brackets (t ∷ ts) ≡ drop s (t ∷ ts)) × Skips ts skips

-- ---- means of proof: the same with the bounds of each number

abbrev pub Measured : List Token → List ℕ → Type 0
Measured [] skips = Unit {0}
Measured (t ∷ ts) [] = ⊥
Measured (t ∷ ts) (s ∷ skips) =
    (behind_brackets (t ∷ ts) ≡ drop s (t ∷ ts)) × (1 ≤ s) × (s ≤ suc (length ts)) × Measured ts skips
