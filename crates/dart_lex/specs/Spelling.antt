-- What a text spells: its tokens, or the first lexical reason (ECMA-408, 20.1 Lexical Rules).
use Rattle.std.specs.Prelude.{◌≡◌, ℕ, ◌+◌, ◌||◌, nat_lt, take, List, [], ◌∷◌, ◌++◌, length, fold, sum_by, max, if◌then◌else◌, Option, Some, None, Result, Ok, Err}
use Rattle.std.specs.Str.Lossy.{utf8_valid_len}
use Rattle.dart_base.specs.declared.limit.TheConstants.{GREATEST_INTEGER, UNIT_BYTES, UNIT_LINES, UNIT_WEIGHT}
use Rattle.dart_base.specs.declared.place.Place.{Place}
use Rattle.dart_base.specs.declared.feature.Feature.TheVariants as f
use Rattle.dart_token.specs.declared.token.Token.{Token}
use Rattle.dart_token.specs.declared.token.TokenKind.TheVariants as t
use Rattle.dart_lex.specs.declared.lexer.LexFault.{LexFault}
use Rattle.dart_lex.specs.declared.lexer.LexFault.TheVariants as e
use Rattle.dart_pieces.specs.declared.piece.PieceClass.{PieceClass}
use Rattle.dart_pieces.specs.declared.piece.PieceClass.TheVariants as k
use Rattle.dart_pieces.specs.declared.piece.LexReason.{LexReason}
use Rattle.dart_pieces.specs.declared.piece.LexReason.TheVariants as r
use Rattle.dart_pieces.specs.Bytes.{is_line_end}
use Rattle.dart_pieces.specs.Numbers.{integer_value}
use Rattle.dart_pieces.specs.Cuts.{Piece, CutOf, script_len}

-- where the bytes after these bytes begin: lines and bytes are counted from 1
abbrev pub after_byte : Place → ℕ → Place
after_byte place b = if is_line_end b
    then record { unit = place.unit; line = place.line + 1; column = 1 }
    else record { unit = place.unit; line = place.line; column = place.column + 1 }

abbrev pub after : Place → List ℕ → Place
after place bytes = fold after_byte place bytes

-- why a refused piece that begins at this place is refused
abbrev pub reason_fault : Place → LexReason → LexFault
reason_fault place r.Unknown = e.BadToken place
reason_fault place r.OpenRaw =
    e.BadToken (record { unit = place.unit; line = place.line; column = place.column + 1 })
reason_fault place r.TripleQuotes = e.LeftOut place f.TripleQuotes
reason_fault place r.Fraction = e.LeftOut place f.Doubles
reason_fault place r.NullAware = e.LeftOut place f.NullAware
reason_fault place r.Symbol = e.LeftOut place f.Symbols

-- why a piece that begins at this place gives no token, if it is refused
abbrev pub fault_of : Place → PieceClass → List ℕ → Option LexFault
fault_of place (k.Lexeme t.Integer) bytes =
    if nat_lt GREATEST_INTEGER (integer_value bytes) then Some (e.IntegerTooLarge place) else None
fault_of place (k.Refused reason) bytes = Some (reason_fault place reason)
fault_of place other bytes = None

-- the token of a piece, if it is one
abbrev pub spelled : Place → PieceClass → List ℕ → List Token
spelled place (k.Lexeme kind) bytes = (record { kind = kind; place = place; lexeme = bytes }) ∷ []
spelled place other bytes = []

abbrev pub behind : List Token → Result (List Token) LexFault → Result (List Token) LexFault
behind found (Ok tokens) = Ok (found ++ tokens)
behind found (Err fault) = Err fault

abbrev pub fault_or : Option LexFault → Result (List Token) LexFault → Result (List Token) LexFault
fault_or (Some fault) read = Err fault
fault_or None read = read

-- What pieces that begin at this place give: their tokens, or the first fault.
abbrev pub tokens_of : Place → List Piece → Result (List Token) LexFault
tokens_of place [] = Ok []
tokens_of place (piece ∷ pieces) = fault_or (fault_of place piece.class piece.bytes)
    (behind (spelled place piece.class piece.bytes) (tokens_of (after place piece.bytes) pieces))

-- the lines of a text: an LF ends one, and bytes behind the last LF are one more
abbrev pub lines : List ℕ → ℕ
lines [] = 0
lines (b ∷ []) = 1
lines (b ∷ c ∷ bytes) = if is_line_end b then 1 + lines (c ∷ bytes) else lines (c ∷ bytes)

-- what a token counts for: its bytes, but at least 3
abbrev pub token_weight : Token → ℕ
token_weight token = max 3 (length token.lexeme)

abbrev pub weight : List Token → ℕ
weight tokens = sum_by token_weight tokens

abbrev pub within_limits : List ℕ → Result (List Token) LexFault → Result (List Token) LexFault
within_limits text (Ok tokens) =
    if nat_lt UNIT_LINES (lines text) || nat_lt UNIT_WEIGHT (weight tokens) then Err e.TooLarge
    else Ok tokens
within_limits text (Err fault) = Err fault

abbrev pub start : ℕ → Place
start unit = record { unit = unit; line = 1; column = 1 }

-- where the first piece of a text begins
abbrev pub first_place : ℕ → List ℕ → Place
first_place unit text = after (start unit) (take (script_len text) text)

-- What a text with these pieces gives, with the reasons in their order: too many bytes, bytes that
-- are not UTF-8, the first piece that is refused, too many lines or too much weight.
abbrev pub answer : ℕ → List ℕ → List Piece → Result (List Token) LexFault
answer unit text pieces = if nat_lt UNIT_BYTES (length text) then Err e.TooLarge
    else if nat_lt (utf8_valid_len text) (length text) then Err (e.NotUtf8 (utf8_valid_len text))
    else within_limits text (tokens_of (first_place unit text) pieces)

-- The text of this unit spells these tokens.
abbrev pub Spells : ℕ → List ℕ → List Token → Type 0
Spells unit text tokens = (pieces : List Piece) × CutOf text pieces
    × (answer unit text pieces ≡ Ok tokens)

-- This is the first lexical reason of the text.
abbrev pub HasReason : ℕ → List ℕ → LexFault → Type 0
HasReason unit text fault = (pieces : List Piece) × CutOf text pieces
    × (answer unit text pieces ≡ Err fault)
