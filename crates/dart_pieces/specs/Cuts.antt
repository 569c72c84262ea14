-- Cuts of a text into pieces.
use Rattle.std.specs.Prelude.{◌≡◌, ◌==◌, ◌&&◌, ℕ, ◌-◌, take, drop, slice_index_or, ◌≤◌, List, [], ◌∷◌, ◌++◌, length, Bool, false, if◌then◌else◌, Option, Some, None}
use Rattle.std.specs.List.{prefix_len}
use Rattle.std.specs.Str.{byte}
use Rattle.dart_token.specs.declared.sign.Sign.TheVariants as s
use Rattle.dart_token.specs.declared.token.Quote.{Quote}
use Rattle.dart_token.specs.declared.token.TokenKind.TheVariants as t
use Rattle.dart_pieces.specs.declared.piece.PieceClass.{PieceClass}
use Rattle.dart_pieces.specs.declared.piece.PieceClass.TheVariants as k
use Rattle.dart_pieces.specs.Bytes.{in_line}
use Rattle.dart_pieces.specs.Pieces.{IsPiece}

-- a piece of a text: its class, and its bytes
pub record Piece : Type 0 where
  pub class : PieceClass
  pub bytes : List ℕ

-- the piece of this class and length that begins the text
abbrev pub found_piece : PieceClass × ℕ → List ℕ → Piece
found_piece found text = record { class = found.0; bytes = take found.1 text }

-- The bytes are a piece of this class, and no longer piece of any class begins there.
abbrev pub Longest : Option Quote → Piece → List ℕ → Type 0
Longest around piece rest = IsPiece around piece.class piece.bytes
    × ((class : PieceClass) (other more : List ℕ) → piece.bytes ++ rest ≡ other ++ more
    → IsPiece around class other → length other ≤ length piece.bytes)

-- What is open after a piece of this class, the innermost last: `{`, which is None, and
-- interpolations, which have their string's quote.
abbrev pub opened : List (Option Quote) → PieceClass → List (Option Quote)
opened nesting (k.Lexeme (t.Sign s.LeftBrace)) = nesting ++ None ∷ []
opened nesting (k.Lexeme (t.Sign s.RightBrace)) = take (length nesting - 1) nesting
opened nesting (k.Lexeme (t.Head quote)) = nesting ++ Some quote ∷ []
opened nesting (k.Lexeme t.Tail) = take (length nesting - 1) nesting
opened nesting other = nesting

abbrev pub innermost : List (Option Quote) → Option Quote
innermost nesting = slice_index_or nesting (length nesting - 1) None

-- The text is these pieces, each the longest at its start.
abbrev pub Cut : List (Option Quote) → List ℕ → List Piece → Type 0
Cut nesting text [] = text ≡ []
Cut nesting text (piece ∷ pieces) = (rest : List ℕ) × (text ≡ piece.bytes ++ rest)
    × Longest (innermost nesting) piece rest × Cut (opened nesting piece.class) rest pieces

abbrev pub begins_script : List ℕ → Bool
begins_script [] = false
begins_script (a ∷ []) = false
begins_script (a ∷ b ∷ more) = (a == byte "#") && (b == byte "!")

-- how many bytes a first line that begins with `#!` has, without its LF: 0 where there is none
abbrev pub script_len : List ℕ → ℕ
script_len text = if begins_script text then prefix_len in_line text else 0

-- The pieces of a whole text, whose `#!` line is skipped.
abbrev pub CutOf : List ℕ → List Piece → Type 0
CutOf text pieces = Cut [] (drop (script_len text) text) pieces
