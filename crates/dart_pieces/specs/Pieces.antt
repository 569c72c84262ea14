-- The classes of pieces (ECMA-408, 20.1 Lexical Rules).
use Rattle.std.specs.Prelude.{◌≡◌, ℕ, List, [], ◌∷◌, false, ◌⊎◌, Option, Some, None, codes}
use Rattle.std.specs.Str.{byte}
use Rattle.dart_token.specs.declared.sign.Sign.{Sign}
use Rattle.dart_token.specs.declared.word.Word.{Word}
use Rattle.dart_token.specs.declared.token.Quote.{Quote}
use Rattle.dart_token.specs.declared.token.TokenKind.TheVariants as t
use Rattle.dart_token.specs.Sign.{sign_text}
use Rattle.dart_token.specs.Word.{word_text}
use Rattle.dart_pieces.specs.declared.piece.PieceClass.{PieceClass}
use Rattle.dart_pieces.specs.declared.piece.PieceClass.TheVariants as k
use Rattle.dart_pieces.specs.declared.piece.LexReason.TheVariants as r
use Rattle.dart_pieces.specs.Bytes.{is_blank, is_digit, is_letter, is_word_byte, IsRun}
use Rattle.dart_pieces.specs.Comments.{IsComment}
use Rattle.dart_pieces.specs.Numbers.{IsInteger, IsDouble}
use Rattle.dart_pieces.specs.Strings.{quote_byte, quote_of, IsString, IsRaw, interpolation}

-- the `}` that ends an interpolation is no sign
abbrev pub IsAllowed : Option Quote → Sign → Type 0
IsAllowed None sign = Unit {0}
IsAllowed (Some quote) sign = ¬ (sign_text sign ≡ codes "}")

-- no piece of another class begins with this byte
abbrev pub IsOther : ℕ → Type 0
IsOther b = (is_letter b ≡ false) × (is_digit b ≡ false) × (is_blank b ≡ false) × (quote_of b ≡ None)
    × ¬ (b ≡ byte "#") × ((sign : Sign) (more : List ℕ) → ¬ (sign_text sign ≡ b ∷ more))

-- The bytes are a piece of this class, where the quote is that of the string whose interpolation would
-- end at a `}`. What is refused is a piece too. What only begins a comment or a string is a refused piece
-- shorter than each of them.
abbrev pub IsPiece : Option Quote → PieceClass → List ℕ → Type 0
IsPiece around k.Blank bytes = IsRun is_blank is_blank bytes
IsPiece around k.Comment bytes = IsComment bytes
IsPiece around (k.Lexeme t.Identifier) bytes = IsRun is_letter is_word_byte bytes
    × ((word : Word) → ¬ (word_text word ≡ bytes))
IsPiece around (k.Lexeme (t.Word word)) bytes = bytes ≡ word_text word
IsPiece around (k.Lexeme t.Integer) bytes = IsInteger bytes
IsPiece around (k.Lexeme t.Whole) bytes = (quote : Quote)
    × (IsString quote (quote_byte quote) (quote_byte quote ∷ []) bytes ⊎ IsRaw quote bytes)
IsPiece around (k.Lexeme (t.Head quote)) bytes = IsString quote (quote_byte quote) interpolation bytes
IsPiece None (k.Lexeme t.Middle) bytes = ⊥
IsPiece (Some quote) (k.Lexeme t.Middle) bytes = IsString quote (byte "}") interpolation bytes
IsPiece None (k.Lexeme t.Tail) bytes = ⊥
IsPiece (Some quote) (k.Lexeme t.Tail) bytes = IsString quote (byte "}") (quote_byte quote ∷ []) bytes
IsPiece around (k.Lexeme (t.Sign sign)) bytes = (bytes ≡ sign_text sign) × IsAllowed around sign
IsPiece around (k.Refused r.Unknown) bytes = ((b : ℕ) × (bytes ≡ b ∷ []) × IsOther b)
    ⊎ ((bytes ≡ codes "/*") ⊎ (((quote : Quote) × (bytes ≡ quote_byte quote ∷ []))
    ⊎ ((bytes ≡ codes "}") × ¬ (around ≡ None))))
IsPiece around (k.Refused r.OpenRaw) bytes = (quote : Quote)
    × (bytes ≡ byte "r" ∷ quote_byte quote ∷ [])
IsPiece around (k.Refused r.TripleQuotes) bytes = (quote : Quote)
    × ((bytes ≡ quote_byte quote ∷ quote_byte quote ∷ quote_byte quote ∷ [])
    ⊎ (bytes ≡ byte "r" ∷ quote_byte quote ∷ quote_byte quote ∷ quote_byte quote ∷ []))
IsPiece around (k.Refused r.Fraction) bytes = IsDouble bytes
IsPiece around (k.Refused r.NullAware) bytes = (bytes ≡ codes "??")
    ⊎ ((bytes ≡ codes "?.") ⊎ (bytes ≡ codes "??="))
IsPiece around (k.Refused r.Symbol) bytes = bytes ≡ codes "#"
