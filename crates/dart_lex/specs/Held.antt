-- Means of proof, which no public contract cites: what is known while a text is read.
use Rattle.std.specs.Prelude.{◌≡◌, ◌≤◌, ℕ, List, Ok}
use Rattle.dart_base.specs.declared.limit.TheConstants.{UNIT_WEIGHT}
use Rattle.dart_token.specs.declared.token.Token.{Token}
use Rattle.dart_pieces.specs.Cuts.{Piece, CutOf}
use Rattle.dart_lex.specs.Spelling.{first_place, tokens_of, weight}

-- These tokens have this weight, and are kept as long as it is within the limit.
abbrev pub IsHeld : List Token → List Token → ℕ → Type 0
IsHeld found held total = (total ≡ weight found) × (total ≤ UNIT_WEIGHT → held ≡ found)

-- The text has these tokens of this weight.
abbrev pub HasRead : ℕ → List ℕ → List Token → ℕ → Type 0
HasRead unit text held total = (pieces : List Piece) × (found : List Token) × CutOf text pieces
    × (tokens_of (first_place unit text) pieces ≡ Ok found) × IsHeld found held total
