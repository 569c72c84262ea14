-- Means of proof, which no public contract cites: the longest sign or refused mark that begins a text,
-- as the code finds it.
use Rattle.std.specs.Prelude.{◌==◌, ◌&&◌, ℕ, List, [], ◌∷◌, if◌then◌else◌, Option, Some, None}
use Rattle.std.specs.Str.{byte}
use Rattle.dart_token.specs.declared.sign.Sign.TheVariants as s
use Rattle.dart_token.specs.declared.token.TokenKind.TheVariants as t
use Rattle.dart_pieces.specs.declared.piece.PieceClass.{PieceClass}
use Rattle.dart_pieces.specs.declared.piece.PieceClass.TheVariants as k
use Rattle.dart_pieces.specs.declared.piece.LexReason.TheVariants as r
use Rattle.dart_pieces.specs.Bytes.{is_digit}

-- the piece of one byte that is a sign, or a mark that is refused
abbrev pub one_mark : ℕ → Option PieceClass
one_mark a = if a == byte "(" then Some (k.Lexeme (t.Sign s.LeftParenthesis))
    else if a == byte ")" then Some (k.Lexeme (t.Sign s.RightParenthesis))
    else if a == byte "[" then Some (k.Lexeme (t.Sign s.LeftBracket))
    else if a == byte "]" then Some (k.Lexeme (t.Sign s.RightBracket))
    else if a == byte "{" then Some (k.Lexeme (t.Sign s.LeftBrace))
    else if a == byte "}" then Some (k.Lexeme (t.Sign s.RightBrace))
    else if a == byte ";" then Some (k.Lexeme (t.Sign s.Semicolon))
    else if a == byte "," then Some (k.Lexeme (t.Sign s.Comma))
    else if a == byte "." then Some (k.Lexeme (t.Sign s.Dot))
    else if a == byte ":" then Some (k.Lexeme (t.Sign s.Colon))
    else if a == byte "?" then Some (k.Lexeme (t.Sign s.Question))
    else if a == byte "@" then Some (k.Lexeme (t.Sign s.AtSign))
    else if a == byte "=" then Some (k.Lexeme (t.Sign s.Assign))
    else if a == byte "<" then Some (k.Lexeme (t.Sign s.Less))
    else if a == byte ">" then Some (k.Lexeme (t.Sign s.Greater))
    else if a == byte "+" then Some (k.Lexeme (t.Sign s.Plus))
    else if a == byte "-" then Some (k.Lexeme (t.Sign s.Minus))
    else if a == byte "*" then Some (k.Lexeme (t.Sign s.Star))
    else if a == byte "/" then Some (k.Lexeme (t.Sign s.Slash))
    else if a == byte "%" then Some (k.Lexeme (t.Sign s.Percent))
    else if a == byte "&" then Some (k.Lexeme (t.Sign s.Ampersand))
    else if a == byte "|" then Some (k.Lexeme (t.Sign s.Bar))
    else if a == byte "^" then Some (k.Lexeme (t.Sign s.Caret))
    else if a == byte "~" then Some (k.Lexeme (t.Sign s.Tilde))
    else if a == byte "!" then Some (k.Lexeme (t.Sign s.Bang))
    else if a == byte "#" then Some (k.Refused r.Symbol)
    else None

abbrev pub two_mark : ℕ → ℕ → Option PieceClass
two_mark a b = if a == byte "." then (if b == byte "." then Some (k.Lexeme (t.Sign s.DotDot))
    else if is_digit b then Some (k.Refused r.Fraction) else None)
    else if a == byte "=" then (if b == byte ">" then Some (k.Lexeme (t.Sign s.Arrow))
    else if b == byte "=" then Some (k.Lexeme (t.Sign s.EqualEqual)) else None)
    else if a == byte "!" then (if b == byte "=" then Some (k.Lexeme (t.Sign s.NotEqual)) else None)
    else if a == byte "<" then (if b == byte "=" then Some (k.Lexeme (t.Sign s.LessEqual))
    else if b == byte "<" then Some (k.Lexeme (t.Sign s.ShiftLeft)) else None)
    else if a == byte ">" then (if b == byte "=" then Some (k.Lexeme (t.Sign s.GreaterEqual)) else None)
    else if a == byte "~" then (if b == byte "/" then Some (k.Lexeme (t.Sign s.TildeSlash)) else None)
    else if a == byte "&" then (if b == byte "&" then Some (k.Lexeme (t.Sign s.AndAnd))
    else if b == byte "=" then Some (k.Lexeme (t.Sign s.AmpersandAssign)) else None)
    else if a == byte "|" then (if b == byte "|" then Some (k.Lexeme (t.Sign s.OrOr))
    else if b == byte "=" then Some (k.Lexeme (t.Sign s.BarAssign)) else None)
    else if a == byte "+" then (if b == byte "+" then Some (k.Lexeme (t.Sign s.PlusPlus))
    else if b == byte "=" then Some (k.Lexeme (t.Sign s.PlusAssign)) else None)
    else if a == byte "-" then (if b == byte "-" then Some (k.Lexeme (t.Sign s.MinusMinus))
    else if b == byte "=" then Some (k.Lexeme (t.Sign s.MinusAssign)) else None)
    else if a == byte "*" then (if b == byte "=" then Some (k.Lexeme (t.Sign s.StarAssign)) else None)
    else if a == byte "/" then (if b == byte "=" then Some (k.Lexeme (t.Sign s.SlashAssign)) else None)
    else if a == byte "%" then (if b == byte "=" then Some (k.Lexeme (t.Sign s.PercentAssign)) else None)
    else if a == byte "^" then (if b == byte "=" then Some (k.Lexeme (t.Sign s.CaretAssign)) else None)
    else if a == byte "?" then (if b == byte "?" then Some (k.Refused r.NullAware)
    else if b == byte "." then Some (k.Refused r.NullAware) else None)
    else None

abbrev pub three_mark : ℕ → ℕ → ℕ → Option PieceClass
three_mark a b c = if (a == byte "~") && (b == byte "/") && (c == byte "=")
    then Some (k.Lexeme (t.Sign s.TildeSlashAssign))
    else if (a == byte "<") && (b == byte "<") && (c == byte "=") then Some (k.Lexeme (t.Sign s.ShiftLeftAssign))
    else if (a == byte "?") && (b == byte "?") && (c == byte "=") then Some (k.Refused r.NullAware)
    else None

abbrev pub first_mark : List ℕ → Option PieceClass
first_mark [] = None
first_mark (a ∷ more) = one_mark a

abbrev pub second_mark : List ℕ → Option PieceClass
second_mark [] = None
second_mark (a ∷ []) = None
second_mark (a ∷ b ∷ more) = two_mark a b

abbrev pub third_mark : List ℕ → Option PieceClass
third_mark [] = None
third_mark (a ∷ []) = None
third_mark (a ∷ b ∷ []) = None
third_mark (a ∷ b ∷ c ∷ more) = three_mark a b c

-- a piece, and how many bytes it has
abbrev pub Found : Type 0
Found = PieceClass × ℕ

abbrev pub mark_or : Option PieceClass → ℕ → Found → Found
mark_or None n other = other
mark_or (Some piece) n other = (piece, n)

abbrev pub mark_at : List ℕ → Found
mark_at text = mark_or (third_mark text) 3
    (mark_or (second_mark text) 2 (mark_or (first_mark text) 1 (k.Refused r.Unknown, 1)))
