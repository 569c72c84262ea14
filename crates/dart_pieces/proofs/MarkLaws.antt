-- Signs and refused marks: each is found, and what is found is one.
use Rattle.std.proofs.Common.{◌≡◌, ◌∙◌, sym, ap, refl, subst, ℕ, ◌+◌, ◌<◌, ◌≤◌, List, [], ◌∷◌, ◌++◌, Bool, true, false, cond, arith, length, take, Option, Some, None, ◌⊎◌, inl, inr, ◌==◌, ◌&&◌}
use Rattle.std.proofs.lemmas.Bool.Decides.{nat_tests}
use Rattle.std.specs.List.{prefix_len}
use Rattle.dart_token.specs.declared.sign.Sign.{Sign}
use Rattle.dart_token.specs.declared.sign.Sign.TheVariants as s
use Rattle.dart_token.specs.declared.token.Quote.{Quote}
use Rattle.dart_token.specs.declared.token.TokenKind.TheVariants as t
use Rattle.dart_token.specs.Sign.{sign_text}
use Rattle.dart_pieces.specs.declared.piece.PieceClass.{PieceClass}
use Rattle.dart_pieces.specs.declared.piece.PieceClass.TheVariants as k
use Rattle.dart_pieces.specs.declared.piece.LexReason.TheVariants as r
use Rattle.dart_pieces.specs.Bytes.{is_digit, in_line}
use Rattle.dart_pieces.specs.Numbers.{IsDouble}
use Rattle.dart_pieces.specs.Pieces.{IsAllowed}
use Rattle.dart_pieces.specs.Marks.{one_mark, two_mark, three_mark, first_mark, second_mark, third_mark, mark_or, mark_at}
use Rattle.dart_pieces.specs.Reader.{is_comment, after_two, is_block, scan, block_found, piece_at}
use Rattle.dart_pieces.proofs.RunLaws.{by_bool, and_true}
use Rattle.dart_pieces.proofs.Found.{Reaches}

-- which of the three tables a piece is in
abbrev pub Placed : PieceClass → ℕ → List ℕ → Type 0
Placed kind n text = ((first_mark text ≡ Some kind) × (n ≡ 1)) ⊎ (((second_mark text ≡ Some kind) × (n ≡ 2)) ⊎ ((third_mark text ≡ Some kind) × (n ≡ 3)))

pub placed : (sign : Sign) (rest : List ℕ) → Placed (k.Lexeme (t.Sign sign)) (length (sign_text sign)) (sign_text sign ++ rest)
placed s.LeftParenthesis rest = inl (refl, refl)
placed s.RightParenthesis rest = inl (refl, refl)
placed s.LeftBracket rest = inl (refl, refl)
placed s.RightBracket rest = inl (refl, refl)
placed s.LeftBrace rest = inl (refl, refl)
placed s.RightBrace rest = inl (refl, refl)
placed s.Semicolon rest = inl (refl, refl)
placed s.Comma rest = inl (refl, refl)
placed s.Dot rest = inl (refl, refl)
placed s.DotDot rest = inr (inl (refl, refl))
placed s.Colon rest = inl (refl, refl)
placed s.Question rest = inl (refl, refl)
placed s.AtSign rest = inl (refl, refl)
placed s.Assign rest = inl (refl, refl)
placed s.Arrow rest = inr (inl (refl, refl))
placed s.EqualEqual rest = inr (inl (refl, refl))
placed s.NotEqual rest = inr (inl (refl, refl))
placed s.Less rest = inl (refl, refl)
placed s.Greater rest = inl (refl, refl)
placed s.LessEqual rest = inr (inl (refl, refl))
placed s.GreaterEqual rest = inr (inl (refl, refl))
placed s.ShiftLeft rest = inr (inl (refl, refl))
placed s.Plus rest = inl (refl, refl)
placed s.Minus rest = inl (refl, refl)
placed s.Star rest = inl (refl, refl)
placed s.Slash rest = inl (refl, refl)
placed s.TildeSlash rest = inr (inl (refl, refl))
placed s.Percent rest = inl (refl, refl)
placed s.Ampersand rest = inl (refl, refl)
placed s.Bar rest = inl (refl, refl)
placed s.Caret rest = inl (refl, refl)
placed s.Tilde rest = inl (refl, refl)
placed s.Bang rest = inl (refl, refl)
placed s.AndAnd rest = inr (inl (refl, refl))
placed s.OrOr rest = inr (inl (refl, refl))
placed s.PlusPlus rest = inr (inl (refl, refl))
placed s.MinusMinus rest = inr (inl (refl, refl))
placed s.PlusAssign rest = inr (inl (refl, refl))
placed s.MinusAssign rest = inr (inl (refl, refl))
placed s.StarAssign rest = inr (inl (refl, refl))
placed s.SlashAssign rest = inr (inl (refl, refl))
placed s.TildeSlashAssign rest = inr (inr (refl, refl))
placed s.PercentAssign rest = inr (inl (refl, refl))
placed s.AmpersandAssign rest = inr (inl (refl, refl))
placed s.BarAssign rest = inr (inl (refl, refl))
placed s.CaretAssign rest = inr (inl (refl, refl))
placed s.ShiftLeftAssign rest = inr (inr (refl, refl))

-- a text that begins with a sign is read as a sign, or as a comment
pub at_sign : (around : Option Quote) (sign : Sign) (rest : List ℕ) → IsAllowed around sign → piece_at around (sign_text sign ++ rest) ≡ cond (is_comment (sign_text sign ++ rest)) (k.Comment, 2 + prefix_len in_line (after_two (sign_text sign ++ rest)))
    (cond (is_block (sign_text sign ++ rest)) (block_found (scan 1 (after_two (sign_text sign ++ rest)))) (mark_at (sign_text sign ++ rest)))
at_sign around s.LeftParenthesis rest h = refl
at_sign around s.RightParenthesis rest h = refl
at_sign around s.LeftBracket rest h = refl
at_sign around s.RightBracket rest h = refl
at_sign around s.LeftBrace rest h = refl
at_sign None s.RightBrace [] h = refl
at_sign None s.RightBrace (x ∷ rest) h = refl
at_sign (Some quote) s.RightBrace rest h = absurd (h refl)
at_sign around s.Semicolon rest h = refl
at_sign around s.Comma rest h = refl
at_sign around s.Dot rest h = refl
at_sign around s.DotDot rest h = refl
at_sign around s.Colon rest h = refl
at_sign around s.Question rest h = refl
at_sign around s.AtSign rest h = refl
at_sign around s.Assign rest h = refl
at_sign around s.Arrow rest h = refl
at_sign around s.EqualEqual rest h = refl
at_sign around s.NotEqual rest h = refl
at_sign around s.Less rest h = refl
at_sign around s.Greater rest h = refl
at_sign around s.LessEqual rest h = refl
at_sign around s.GreaterEqual rest h = refl
at_sign around s.ShiftLeft rest h = refl
at_sign around s.Plus rest h = refl
at_sign around s.Minus rest h = refl
at_sign around s.Star rest h = refl
at_sign around s.Slash rest h = refl
at_sign around s.TildeSlash rest h = refl
at_sign around s.Percent rest h = refl
at_sign around s.Ampersand rest h = refl
at_sign around s.Bar rest h = refl
at_sign around s.Caret rest h = refl
at_sign around s.Tilde rest h = refl
at_sign around s.Bang rest h = refl
at_sign around s.AndAnd rest h = refl
at_sign around s.OrOr rest h = refl
at_sign around s.PlusPlus rest h = refl
at_sign around s.MinusMinus rest h = refl
at_sign around s.PlusAssign rest h = refl
at_sign around s.MinusAssign rest h = refl
at_sign around s.StarAssign rest h = refl
at_sign around s.SlashAssign rest h = refl
at_sign around s.TildeSlashAssign rest h = refl
at_sign around s.PercentAssign rest h = refl
at_sign around s.AmpersandAssign rest h = refl
at_sign around s.BarAssign rest h = refl
at_sign around s.CaretAssign rest h = refl
at_sign around s.ShiftLeftAssign rest h = refl

pub comment_sign : (sign : Sign) (rest : List ℕ) → is_comment (sign_text sign ++ rest) ≡ true → length (sign_text sign) ≡ 1
comment_sign s.LeftParenthesis rest e = refl
comment_sign s.RightParenthesis rest e = refl
comment_sign s.LeftBracket rest e = refl
comment_sign s.RightBracket rest e = refl
comment_sign s.LeftBrace rest e = refl
comment_sign s.RightBrace rest e = refl
comment_sign s.Semicolon rest e = refl
comment_sign s.Comma rest e = refl
comment_sign s.Dot rest e = refl
comment_sign s.DotDot rest e = absurd cc
comment_sign s.Colon rest e = refl
comment_sign s.Question rest e = refl
comment_sign s.AtSign rest e = refl
comment_sign s.Assign rest e = refl
comment_sign s.Arrow rest e = absurd cc
comment_sign s.EqualEqual rest e = absurd cc
comment_sign s.NotEqual rest e = absurd cc
comment_sign s.Less rest e = refl
comment_sign s.Greater rest e = refl
comment_sign s.LessEqual rest e = absurd cc
comment_sign s.GreaterEqual rest e = absurd cc
comment_sign s.ShiftLeft rest e = absurd cc
comment_sign s.Plus rest e = refl
comment_sign s.Minus rest e = refl
comment_sign s.Star rest e = refl
comment_sign s.Slash rest e = refl
comment_sign s.TildeSlash rest e = absurd cc
comment_sign s.Percent rest e = refl
comment_sign s.Ampersand rest e = refl
comment_sign s.Bar rest e = refl
comment_sign s.Caret rest e = refl
comment_sign s.Tilde rest e = refl
comment_sign s.Bang rest e = refl
comment_sign s.AndAnd rest e = absurd cc
comment_sign s.OrOr rest e = absurd cc
comment_sign s.PlusPlus rest e = absurd cc
comment_sign s.MinusMinus rest e = absurd cc
comment_sign s.PlusAssign rest e = absurd cc
comment_sign s.MinusAssign rest e = absurd cc
comment_sign s.StarAssign rest e = absurd cc
comment_sign s.SlashAssign rest e = absurd cc
comment_sign s.TildeSlashAssign rest e = absurd cc
comment_sign s.PercentAssign rest e = absurd cc
comment_sign s.AmpersandAssign rest e = absurd cc
comment_sign s.BarAssign rest e = absurd cc
comment_sign s.CaretAssign rest e = absurd cc
comment_sign s.ShiftLeftAssign rest e = absurd cc

pub block_sign : (sign : Sign) (rest : List ℕ) → is_block (sign_text sign ++ rest) ≡ true → length (sign_text sign) ≡ 1
block_sign s.LeftParenthesis rest e = refl
block_sign s.RightParenthesis rest e = refl
block_sign s.LeftBracket rest e = refl
block_sign s.RightBracket rest e = refl
block_sign s.LeftBrace rest e = refl
block_sign s.RightBrace rest e = refl
block_sign s.Semicolon rest e = refl
block_sign s.Comma rest e = refl
block_sign s.Dot rest e = refl
block_sign s.DotDot rest e = absurd cc
block_sign s.Colon rest e = refl
block_sign s.Question rest e = refl
block_sign s.AtSign rest e = refl
block_sign s.Assign rest e = refl
block_sign s.Arrow rest e = absurd cc
block_sign s.EqualEqual rest e = absurd cc
block_sign s.NotEqual rest e = absurd cc
block_sign s.Less rest e = refl
block_sign s.Greater rest e = refl
block_sign s.LessEqual rest e = absurd cc
block_sign s.GreaterEqual rest e = absurd cc
block_sign s.ShiftLeft rest e = absurd cc
block_sign s.Plus rest e = refl
block_sign s.Minus rest e = refl
block_sign s.Star rest e = refl
block_sign s.Slash rest e = refl
block_sign s.TildeSlash rest e = absurd cc
block_sign s.Percent rest e = refl
block_sign s.Ampersand rest e = refl
block_sign s.Bar rest e = refl
block_sign s.Caret rest e = refl
block_sign s.Tilde rest e = refl
block_sign s.Bang rest e = refl
block_sign s.AndAnd rest e = absurd cc
block_sign s.OrOr rest e = absurd cc
block_sign s.PlusPlus rest e = absurd cc
block_sign s.MinusMinus rest e = absurd cc
block_sign s.PlusAssign rest e = absurd cc
block_sign s.MinusAssign rest e = absurd cc
block_sign s.StarAssign rest e = absurd cc
block_sign s.SlashAssign rest e = absurd cc
block_sign s.TildeSlashAssign rest e = absurd cc
block_sign s.PercentAssign rest e = absurd cc
block_sign s.AmpersandAssign rest e = absurd cc
block_sign s.BarAssign rest e = absurd cc
block_sign s.CaretAssign rest e = absurd cc
block_sign s.ShiftLeftAssign rest e = absurd cc

-- each byte that begins a sign is one
pub begins_sign : (sign : Sign) (b : ℕ) (more : List ℕ) → sign_text sign ≡ b ∷ more → one_mark b ≡ None → ⊥
begins_sign s.LeftParenthesis b more e none = let same : b ≡ 40 = cc in let bad : one_mark 40 ≡ None = sym (ap one_mark same) ∙ none in absurd cc
begins_sign s.RightParenthesis b more e none = let same : b ≡ 41 = cc in let bad : one_mark 41 ≡ None = sym (ap one_mark same) ∙ none in absurd cc
begins_sign s.LeftBracket b more e none = let same : b ≡ 91 = cc in let bad : one_mark 91 ≡ None = sym (ap one_mark same) ∙ none in absurd cc
begins_sign s.RightBracket b more e none = let same : b ≡ 93 = cc in let bad : one_mark 93 ≡ None = sym (ap one_mark same) ∙ none in absurd cc
begins_sign s.LeftBrace b more e none = let same : b ≡ 123 = cc in let bad : one_mark 123 ≡ None = sym (ap one_mark same) ∙ none in absurd cc
begins_sign s.RightBrace b more e none = let same : b ≡ 125 = cc in let bad : one_mark 125 ≡ None = sym (ap one_mark same) ∙ none in absurd cc
begins_sign s.Semicolon b more e none = let same : b ≡ 59 = cc in let bad : one_mark 59 ≡ None = sym (ap one_mark same) ∙ none in absurd cc
begins_sign s.Comma b more e none = let same : b ≡ 44 = cc in let bad : one_mark 44 ≡ None = sym (ap one_mark same) ∙ none in absurd cc
begins_sign s.Dot b more e none = let same : b ≡ 46 = cc in let bad : one_mark 46 ≡ None = sym (ap one_mark same) ∙ none in absurd cc
begins_sign s.DotDot b more e none = let same : b ≡ 46 = cc in let bad : one_mark 46 ≡ None = sym (ap one_mark same) ∙ none in absurd cc
begins_sign s.Colon b more e none = let same : b ≡ 58 = cc in let bad : one_mark 58 ≡ None = sym (ap one_mark same) ∙ none in absurd cc
begins_sign s.Question b more e none = let same : b ≡ 63 = cc in let bad : one_mark 63 ≡ None = sym (ap one_mark same) ∙ none in absurd cc
begins_sign s.AtSign b more e none = let same : b ≡ 64 = cc in let bad : one_mark 64 ≡ None = sym (ap one_mark same) ∙ none in absurd cc
begins_sign s.Assign b more e none = let same : b ≡ 61 = cc in let bad : one_mark 61 ≡ None = sym (ap one_mark same) ∙ none in absurd cc
begins_sign s.Arrow b more e none = let same : b ≡ 61 = cc in let bad : one_mark 61 ≡ None = sym (ap one_mark same) ∙ none in absurd cc
begins_sign s.EqualEqual b more e none = let same : b ≡ 61 = cc in let bad : one_mark 61 ≡ None = sym (ap one_mark same) ∙ none in absurd cc
begins_sign s.NotEqual b more e none = let same : b ≡ 33 = cc in let bad : one_mark 33 ≡ None = sym (ap one_mark same) ∙ none in absurd cc
begins_sign s.Less b more e none = let same : b ≡ 60 = cc in let bad : one_mark 60 ≡ None = sym (ap one_mark same) ∙ none in absurd cc
begins_sign s.Greater b more e none = let same : b ≡ 62 = cc in let bad : one_mark 62 ≡ None = sym (ap one_mark same) ∙ none in absurd cc
begins_sign s.LessEqual b more e none = let same : b ≡ 60 = cc in let bad : one_mark 60 ≡ None = sym (ap one_mark same) ∙ none in absurd cc
begins_sign s.GreaterEqual b more e none = let same : b ≡ 62 = cc in let bad : one_mark 62 ≡ None = sym (ap one_mark same) ∙ none in absurd cc
begins_sign s.ShiftLeft b more e none = let same : b ≡ 60 = cc in let bad : one_mark 60 ≡ None = sym (ap one_mark same) ∙ none in absurd cc
begins_sign s.Plus b more e none = let same : b ≡ 43 = cc in let bad : one_mark 43 ≡ None = sym (ap one_mark same) ∙ none in absurd cc
begins_sign s.Minus b more e none = let same : b ≡ 45 = cc in let bad : one_mark 45 ≡ None = sym (ap one_mark same) ∙ none in absurd cc
begins_sign s.Star b more e none = let same : b ≡ 42 = cc in let bad : one_mark 42 ≡ None = sym (ap one_mark same) ∙ none in absurd cc
begins_sign s.Slash b more e none = let same : b ≡ 47 = cc in let bad : one_mark 47 ≡ None = sym (ap one_mark same) ∙ none in absurd cc
begins_sign s.TildeSlash b more e none = let same : b ≡ 126 = cc in let bad : one_mark 126 ≡ None = sym (ap one_mark same) ∙ none in absurd cc
begins_sign s.Percent b more e none = let same : b ≡ 37 = cc in let bad : one_mark 37 ≡ None = sym (ap one_mark same) ∙ none in absurd cc
begins_sign s.Ampersand b more e none = let same : b ≡ 38 = cc in let bad : one_mark 38 ≡ None = sym (ap one_mark same) ∙ none in absurd cc
begins_sign s.Bar b more e none = let same : b ≡ 124 = cc in let bad : one_mark 124 ≡ None = sym (ap one_mark same) ∙ none in absurd cc
begins_sign s.Caret b more e none = let same : b ≡ 94 = cc in let bad : one_mark 94 ≡ None = sym (ap one_mark same) ∙ none in absurd cc
begins_sign s.Tilde b more e none = let same : b ≡ 126 = cc in let bad : one_mark 126 ≡ None = sym (ap one_mark same) ∙ none in absurd cc
begins_sign s.Bang b more e none = let same : b ≡ 33 = cc in let bad : one_mark 33 ≡ None = sym (ap one_mark same) ∙ none in absurd cc
begins_sign s.AndAnd b more e none = let same : b ≡ 38 = cc in let bad : one_mark 38 ≡ None = sym (ap one_mark same) ∙ none in absurd cc
begins_sign s.OrOr b more e none = let same : b ≡ 124 = cc in let bad : one_mark 124 ≡ None = sym (ap one_mark same) ∙ none in absurd cc
begins_sign s.PlusPlus b more e none = let same : b ≡ 43 = cc in let bad : one_mark 43 ≡ None = sym (ap one_mark same) ∙ none in absurd cc
begins_sign s.MinusMinus b more e none = let same : b ≡ 45 = cc in let bad : one_mark 45 ≡ None = sym (ap one_mark same) ∙ none in absurd cc
begins_sign s.PlusAssign b more e none = let same : b ≡ 43 = cc in let bad : one_mark 43 ≡ None = sym (ap one_mark same) ∙ none in absurd cc
begins_sign s.MinusAssign b more e none = let same : b ≡ 45 = cc in let bad : one_mark 45 ≡ None = sym (ap one_mark same) ∙ none in absurd cc
begins_sign s.StarAssign b more e none = let same : b ≡ 42 = cc in let bad : one_mark 42 ≡ None = sym (ap one_mark same) ∙ none in absurd cc
begins_sign s.SlashAssign b more e none = let same : b ≡ 47 = cc in let bad : one_mark 47 ≡ None = sym (ap one_mark same) ∙ none in absurd cc
begins_sign s.TildeSlashAssign b more e none = let same : b ≡ 126 = cc in let bad : one_mark 126 ≡ None = sym (ap one_mark same) ∙ none in absurd cc
begins_sign s.PercentAssign b more e none = let same : b ≡ 37 = cc in let bad : one_mark 37 ≡ None = sym (ap one_mark same) ∙ none in absurd cc
begins_sign s.AmpersandAssign b more e none = let same : b ≡ 38 = cc in let bad : one_mark 38 ≡ None = sym (ap one_mark same) ∙ none in absurd cc
begins_sign s.BarAssign b more e none = let same : b ≡ 124 = cc in let bad : one_mark 124 ≡ None = sym (ap one_mark same) ∙ none in absurd cc
begins_sign s.CaretAssign b more e none = let same : b ≡ 94 = cc in let bad : one_mark 94 ≡ None = sym (ap one_mark same) ∙ none in absurd cc
begins_sign s.ShiftLeftAssign b more e none = let same : b ≡ 60 = cc in let bad : one_mark 60 ≡ None = sym (ap one_mark same) ∙ none in absurd cc

-- ---- what the tables give is there

abbrev pub IsMark : PieceClass → List ℕ → Type 0
IsMark (k.Lexeme (t.Sign sign)) piece = piece ≡ sign_text sign
IsMark (k.Refused r.Fraction) piece = IsDouble piece
IsMark (k.Refused r.NullAware) piece = (piece ≡ 63 ∷ 63 ∷ []) ⊎ ((piece ≡ 63 ∷ 46 ∷ []) ⊎ (piece ≡ 63 ∷ 63 ∷ 61 ∷ []))
IsMark (k.Refused r.Symbol) piece = piece ≡ 35 ∷ []
IsMark other piece = ⊥

same_byte : (a b : ℕ) → (a == b) ≡ true → a ≡ b
same_byte a b e = grind (arith, nat_tests)

-- one line of a table
line : (P : PieceClass → Type 0) (b : Bool) (p : PieceClass) (others : Option PieceClass) → (b ≡ true → P p) → ((q : PieceClass) → others ≡ Some q → P q) → (q : PieceClass) → cond b (Some p) others ≡ Some q → P q
line P true p others hit miss q e = let same : p ≡ q = cc in subst P same (hit refl)
line P false p others hit miss q e = miss q e

-- the lines of one first byte
part : (P : PieceClass → Type 0) (b : Bool) (lines others : Option PieceClass) → (b ≡ true → (q : PieceClass) → lines ≡ Some q → P q) → ((q : PieceClass) → others ≡ Some q → P q) → (q : PieceClass) → cond b lines others ≡ Some q → P q
part P true lines others hit miss q e = hit refl q e
part P false lines others hit miss q e = miss q e

none : (P : PieceClass → Type 0) (q : PieceClass) → None ≡ Some q → P q
none P q e = absurd cc

pub one_sound : (a : ℕ) (piece : PieceClass) → one_mark a ≡ Some piece → IsMark piece (a ∷ [])
one_sound a = let P : PieceClass → Type 0 = λ p. IsMark p (a ∷ []) in line P (a == 40) (k.Lexeme (t.Sign s.LeftParenthesis)) _ (λ e. ap (λ x. x ∷ []) (same_byte a 40 e))
    (line P (a == 41) (k.Lexeme (t.Sign s.RightParenthesis)) _ (λ e. ap (λ x. x ∷ []) (same_byte a 41 e))
    (line P (a == 91) (k.Lexeme (t.Sign s.LeftBracket)) _ (λ e. ap (λ x. x ∷ []) (same_byte a 91 e))
    (line P (a == 93) (k.Lexeme (t.Sign s.RightBracket)) _ (λ e. ap (λ x. x ∷ []) (same_byte a 93 e))
    (line P (a == 123) (k.Lexeme (t.Sign s.LeftBrace)) _ (λ e. ap (λ x. x ∷ []) (same_byte a 123 e))
    (line P (a == 125) (k.Lexeme (t.Sign s.RightBrace)) _ (λ e. ap (λ x. x ∷ []) (same_byte a 125 e))
    (line P (a == 59) (k.Lexeme (t.Sign s.Semicolon)) _ (λ e. ap (λ x. x ∷ []) (same_byte a 59 e))
    (line P (a == 44) (k.Lexeme (t.Sign s.Comma)) _ (λ e. ap (λ x. x ∷ []) (same_byte a 44 e))
    (line P (a == 46) (k.Lexeme (t.Sign s.Dot)) _ (λ e. ap (λ x. x ∷ []) (same_byte a 46 e))
    (line P (a == 58) (k.Lexeme (t.Sign s.Colon)) _ (λ e. ap (λ x. x ∷ []) (same_byte a 58 e))
    (line P (a == 63) (k.Lexeme (t.Sign s.Question)) _ (λ e. ap (λ x. x ∷ []) (same_byte a 63 e))
    (line P (a == 64) (k.Lexeme (t.Sign s.AtSign)) _ (λ e. ap (λ x. x ∷ []) (same_byte a 64 e))
    (line P (a == 61) (k.Lexeme (t.Sign s.Assign)) _ (λ e. ap (λ x. x ∷ []) (same_byte a 61 e))
    (line P (a == 60) (k.Lexeme (t.Sign s.Less)) _ (λ e. ap (λ x. x ∷ []) (same_byte a 60 e))
    (line P (a == 62) (k.Lexeme (t.Sign s.Greater)) _ (λ e. ap (λ x. x ∷ []) (same_byte a 62 e))
    (line P (a == 43) (k.Lexeme (t.Sign s.Plus)) _ (λ e. ap (λ x. x ∷ []) (same_byte a 43 e))
    (line P (a == 45) (k.Lexeme (t.Sign s.Minus)) _ (λ e. ap (λ x. x ∷ []) (same_byte a 45 e))
    (line P (a == 42) (k.Lexeme (t.Sign s.Star)) _ (λ e. ap (λ x. x ∷ []) (same_byte a 42 e))
    (line P (a == 47) (k.Lexeme (t.Sign s.Slash)) _ (λ e. ap (λ x. x ∷ []) (same_byte a 47 e))
    (line P (a == 37) (k.Lexeme (t.Sign s.Percent)) _ (λ e. ap (λ x. x ∷ []) (same_byte a 37 e))
    (line P (a == 38) (k.Lexeme (t.Sign s.Ampersand)) _ (λ e. ap (λ x. x ∷ []) (same_byte a 38 e))
    (line P (a == 124) (k.Lexeme (t.Sign s.Bar)) _ (λ e. ap (λ x. x ∷ []) (same_byte a 124 e))
    (line P (a == 94) (k.Lexeme (t.Sign s.Caret)) _ (λ e. ap (λ x. x ∷ []) (same_byte a 94 e))
    (line P (a == 126) (k.Lexeme (t.Sign s.Tilde)) _ (λ e. ap (λ x. x ∷ []) (same_byte a 126 e))
    (line P (a == 33) (k.Lexeme (t.Sign s.Bang)) _ (λ e. ap (λ x. x ∷ []) (same_byte a 33 e))
    (line P (a == 35) (k.Refused r.Symbol) _ (λ e. ap (λ x. x ∷ []) (same_byte a 35 e))
    (none P))))))))))))))))))))))))))

two_is : (a b c d : ℕ) → (a == c) ≡ true → (b == d) ≡ true → a ∷ b ∷ [] ≡ c ∷ d ∷ []
two_is a b c d e f = ap (λ x. x ∷ b ∷ []) (same_byte a c e) ∙ ap (λ x. c ∷ x ∷ []) (same_byte b d f)

pub two_sound : (a b : ℕ) (piece : PieceClass) → two_mark a b ≡ Some piece → IsMark piece (a ∷ b ∷ [])
two_sound a b = let P : PieceClass → Type 0 = λ p. IsMark p (a ∷ b ∷ []) in part P (a == 46) _ _ (λ e. line P (b == 46) (k.Lexeme (t.Sign s.DotDot)) _ (λ f. two_is a b 46 46 e f) (line P (is_digit b) (k.Refused r.Fraction) _ (λ f. inl (b, ap (λ x. x ∷ b ∷ []) (same_byte a 46 e), f)) (none P)))
    (part P (a == 61) _ _ (λ e. line P (b == 62) (k.Lexeme (t.Sign s.Arrow)) _ (λ f. two_is a b 61 62 e f) (line P (b == 61) (k.Lexeme (t.Sign s.EqualEqual)) _ (λ f. two_is a b 61 61 e f) (none P)))
    (part P (a == 33) _ _ (λ e. line P (b == 61) (k.Lexeme (t.Sign s.NotEqual)) _ (λ f. two_is a b 33 61 e f) (none P))
    (part P (a == 60) _ _ (λ e. line P (b == 61) (k.Lexeme (t.Sign s.LessEqual)) _ (λ f. two_is a b 60 61 e f) (line P (b == 60) (k.Lexeme (t.Sign s.ShiftLeft)) _ (λ f. two_is a b 60 60 e f) (none P)))
    (part P (a == 62) _ _ (λ e. line P (b == 61) (k.Lexeme (t.Sign s.GreaterEqual)) _ (λ f. two_is a b 62 61 e f) (none P))
    (part P (a == 126) _ _ (λ e. line P (b == 47) (k.Lexeme (t.Sign s.TildeSlash)) _ (λ f. two_is a b 126 47 e f) (none P))
    (part P (a == 38) _ _ (λ e. line P (b == 38) (k.Lexeme (t.Sign s.AndAnd)) _ (λ f. two_is a b 38 38 e f) (line P (b == 61) (k.Lexeme (t.Sign s.AmpersandAssign)) _ (λ f. two_is a b 38 61 e f) (none P)))
    (part P (a == 124) _ _ (λ e. line P (b == 124) (k.Lexeme (t.Sign s.OrOr)) _ (λ f. two_is a b 124 124 e f) (line P (b == 61) (k.Lexeme (t.Sign s.BarAssign)) _ (λ f. two_is a b 124 61 e f) (none P)))
    (part P (a == 43) _ _ (λ e. line P (b == 43) (k.Lexeme (t.Sign s.PlusPlus)) _ (λ f. two_is a b 43 43 e f) (line P (b == 61) (k.Lexeme (t.Sign s.PlusAssign)) _ (λ f. two_is a b 43 61 e f) (none P)))
    (part P (a == 45) _ _ (λ e. line P (b == 45) (k.Lexeme (t.Sign s.MinusMinus)) _ (λ f. two_is a b 45 45 e f) (line P (b == 61) (k.Lexeme (t.Sign s.MinusAssign)) _ (λ f. two_is a b 45 61 e f) (none P)))
    (part P (a == 42) _ _ (λ e. line P (b == 61) (k.Lexeme (t.Sign s.StarAssign)) _ (λ f. two_is a b 42 61 e f) (none P))
    (part P (a == 47) _ _ (λ e. line P (b == 61) (k.Lexeme (t.Sign s.SlashAssign)) _ (λ f. two_is a b 47 61 e f) (none P))
    (part P (a == 37) _ _ (λ e. line P (b == 61) (k.Lexeme (t.Sign s.PercentAssign)) _ (λ f. two_is a b 37 61 e f) (none P))
    (part P (a == 94) _ _ (λ e. line P (b == 61) (k.Lexeme (t.Sign s.CaretAssign)) _ (λ f. two_is a b 94 61 e f) (none P))
    (part P (a == 63) _ _ (λ e. line P (b == 63) (k.Refused r.NullAware) _ (λ f. inl (two_is a b 63 63 e f)) (line P (b == 46) (k.Refused r.NullAware) _ (λ f. inr (inl (two_is a b 63 46 e f))) (none P)))
    (none P)))))))))))))))

three_is : (a b c x y z : ℕ) → ((a == x) && (b == y) && (c == z)) ≡ true → a ∷ b ∷ c ∷ [] ≡ x ∷ y ∷ z ∷ []
three_is a b c x y z e =
    let one = and_true ((a == x) && (b == y)) (c == z) e in
    let two = and_true (a == x) (b == y) one.0 in
    ap (λ w. w ∷ b ∷ c ∷ []) (same_byte a x two.0) ∙ ap (λ w. x ∷ w ∷ c ∷ []) (same_byte b y two.1) ∙ ap (λ w. x ∷ y ∷ w ∷ []) (same_byte c z one.1)

pub three_sound : (a b c : ℕ) (piece : PieceClass) → three_mark a b c ≡ Some piece → IsMark piece (a ∷ b ∷ c ∷ [])
three_sound a b c = let P : PieceClass → Type 0 = λ p. IsMark p (a ∷ b ∷ c ∷ []) in line P ((a == 126) && (b == 47) && (c == 61)) (k.Lexeme (t.Sign s.TildeSlashAssign)) _ (λ e. three_is a b c 126 47 61 e)
    (line P ((a == 60) && (b == 60) && (c == 61)) (k.Lexeme (t.Sign s.ShiftLeftAssign)) _ (λ e. three_is a b c 60 60 61 e)
    (line P ((a == 63) && (b == 63) && (c == 61)) (k.Refused r.NullAware) _ (λ e. inr (inr (three_is a b c 63 63 61 e))) (none P)))

-- ---- the longest of the three is found

pub mark_reached : (kind : PieceClass) (n : ℕ) (one two three : Option PieceClass)
    → (((one ≡ Some kind) × (n ≡ 1)) ⊎ (((two ≡ Some kind) × (n ≡ 2)) ⊎ ((three ≡ Some kind) × (n ≡ 3))))
    → Reaches kind n (mark_or three 3 (mark_or two 2 (mark_or one 1 (k.Refused r.Unknown, 1))))
mark_reached kind n one two (Some p) (inl (e, m)) = inl (omega arith)
mark_reached kind n one two (Some p) (inr (inl (e, m))) = inl (omega arith)
mark_reached kind n one two (Some p) (inr (inr (e, m))) = inr (cc, sym m)
mark_reached kind n one (Some p) None (inl (e, m)) = inl (omega arith)
mark_reached kind n one (Some p) None (inr (inl (e, m))) = inr (cc, sym m)
mark_reached kind n one (Some p) None (inr (inr (e, m))) = absurd cc
mark_reached kind n (Some p) None None (inl (e, m)) = inr (cc, sym m)
mark_reached kind n (Some p) None None (inr (inl (e, m))) = absurd cc
mark_reached kind n (Some p) None None (inr (inr (e, m))) = absurd cc
mark_reached kind n None None None (inl (e, m)) = absurd cc
mark_reached kind n None None None (inr (inl (e, m))) = absurd cc
mark_reached kind n None None None (inr (inr (e, m))) = absurd cc

longer_block : (kind : PieceClass) (n : ℕ) (o : Option ℕ) → n < 2 → Reaches kind n (block_found o)
longer_block kind n None lt = inl (omega arith)
longer_block kind n (Some m) lt = inl (omega arith)

pub reach_sign : (around : Option Quote) (sign : Sign) (rest : List ℕ) → IsAllowed around sign → Reaches (k.Lexeme (t.Sign sign)) (length (sign_text sign)) (piece_at around (sign_text sign ++ rest))
reach_sign around sign rest h =
    rw (at_sign around sign rest h) (by_bool (is_comment (sign_text sign ++ rest))
    (λ y. let one : length (sign_text sign) ≡ 1 = comment_sign sign rest y in rw y (inl (omega arith)))
    (λ n. by_bool (is_block (sign_text sign ++ rest))
    (λ y. let one : length (sign_text sign) ≡ 1 = block_sign sign rest y in rw (n, y) (longer_block (k.Lexeme (t.Sign sign)) (length (sign_text sign)) (scan 1 (after_two (sign_text sign ++ rest))) (omega arith)))
    (λ m. rw (n, m) (mark_reached (k.Lexeme (t.Sign sign)) (length (sign_text sign)) (first_mark (sign_text sign ++ rest)) (second_mark (sign_text sign ++ rest)) (third_mark (sign_text sign ++ rest)) (placed sign rest)))))

pub third_is : (b : ℕ) (rest : List ℕ) (p : PieceClass) → third_mark (b ∷ rest) ≡ Some p → (2 ≤ length rest) × IsMark p (take 3 (b ∷ rest))
third_is b [] p e = absurd cc
third_is b (x ∷ []) p e = absurd cc
third_is b (x ∷ y ∷ more) p e = (omega arith, three_sound b x y p e)

pub second_is : (b : ℕ) (rest : List ℕ) (p : PieceClass) → second_mark (b ∷ rest) ≡ Some p → (1 ≤ length rest) × IsMark p (take 2 (b ∷ rest))
second_is b [] p e = absurd cc
second_is b (x ∷ more) p e = (omega arith, two_sound b x p e)
