-- Tokens written out, each on its own line.
use Rattle.std.specs.Prelude.{◌≡◌, ◌≤◌, ◌&&◌, ℕ, nat_lt, ◌-◌, List, [], ◌∷◌, ◌++◌, replicate, Bool, true, false, if◌then◌else◌, Option, Ok, codes}
use Rattle.std.specs.Str.{byte}
use Rattle.dart_base.specs.declared.limit.TheConstants.{GREATEST_INTEGER}
use Rattle.dart_token.specs.declared.sign.Sign.TheVariants as s
use Rattle.dart_token.specs.declared.token.Quote.{Quote}
use Rattle.dart_token.specs.declared.token.Token.{Token}
use Rattle.dart_token.specs.declared.token.TokenKind.{TokenKind}
use Rattle.dart_token.specs.declared.token.TokenKind.TheVariants as t
use Rattle.dart_pieces.specs.declared.piece.PieceClass.TheVariants as k
use Rattle.dart_pieces.specs.Cuts.{Piece, CutOf, opened, innermost}
use Rattle.dart_pieces.specs.Numbers.{integer_value}
use Rattle.dart_pieces.specs.Pieces.{IsPiece}
use Rattle.dart_lex.specs.Spelling.{tokens_of, first_place}

abbrev pub is_greater : TokenKind → Bool
is_greater (t.Sign s.Greater) = true
is_greater other = false

-- `>` or `>=`
abbrev pub begins_greater : TokenKind → Bool
begins_greater (t.Sign s.Greater) = true
begins_greater (t.Sign s.GreaterEqual) = true
begins_greater other = false

-- what stands between a token and the next: LFs up to a later line, or a blank, or nothing between `>` and `>` or `>=`
abbrev pub separator : Token → Token → List ℕ
separator a b = if nat_lt a.place.line b.place.line
    then replicate (b.place.line - a.place.line) (byte "\n")
    else (if is_greater a.kind && begins_greater b.kind then [] else codes " ")

-- what stands behind a token: the further ones, and an LF at the end
abbrev pub text_behind : Token → List Token → List ℕ
text_behind a [] = codes "\n"
text_behind a (b ∷ tokens) = separator a b ++ (b.lexeme ++ text_behind b tokens)

-- the text of tokens
abbrev pub rendered : List Token → List ℕ
rendered [] = []
rendered (a ∷ tokens) = replicate (a.place.line - 1) (byte "\n") ++ (a.lexeme ++ text_behind a tokens)

-- the lines never fall, from this one on
abbrev pub Rising : ℕ → List Token → Type 0
Rising line [] = Unit {0}
Rising line (a ∷ tokens) = (line ≤ a.place.line) × Rising a.place.line tokens

-- Each lexeme is one of its kind where that is open, and the pieces of strings and the braces between
-- them nest.
abbrev pub Nests : List (Option Quote) → List Token → Type 0
Nests nesting [] = Unit {0}
Nests nesting (a ∷ tokens) = IsPiece (innermost nesting) (k.Lexeme a.kind) a.lexeme
    × Nests (opened nesting (k.Lexeme a.kind)) tokens

-- all tokens are of this unit
abbrev pub InUnit : ℕ → List Token → Type 0
InUnit unit [] = Unit {0}
InUnit unit (a ∷ tokens) = (a.place.unit ≡ unit) × InUnit unit tokens

-- no integer is too large
abbrev pub InRange : List Token → Type 0
InRange [] = Unit {0}
InRange (a ∷ tokens) = (a.kind ≡ t.Integer → integer_value a.lexeme ≤ GREATEST_INTEGER)
    × InRange tokens

-- the same tokens, columns aside
abbrev pub AllAlike : List Token → List Token → Type 0
AllAlike [] [] = Unit {0}
AllAlike [] (b ∷ others) = ⊥
AllAlike (a ∷ tokens) [] = ⊥
AllAlike (a ∷ tokens) (b ∷ others) = (a.kind ≡ b.kind) × (a.lexeme ≡ b.lexeme)
    × (a.place.unit ≡ b.place.unit) × (a.place.line ≡ b.place.line) × AllAlike tokens others

-- What is read from the bytes, as the text of this unit and without its limits, are these tokens,
-- columns aside.
abbrev pub Restores : ℕ → List Token → List ℕ → Type 0
Restores unit tokens bytes = (pieces : List Piece) × CutOf bytes pieces
    × ((read : List Token) × (tokens_of (first_place unit bytes) pieces ≡ Ok read)
    × AllAlike tokens read)
