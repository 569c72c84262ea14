-- A token before a blank or an end of a line goes no further, and it has no end of a line in it.
use Rattle.std.proofs.Common.{◌≡◌, ◌∙◌, ap, refl, ℕ, suc, ◌+◌, ◌<◌, List, [], ◌∷◌, ◌++◌, Bool, true, false, arith, length, take, Option, Some, None, ◌⊎◌, inl, inr, ◌==◌, append_assoc}
use Rattle.std.proofs.lemmas.Bool.Decides.{nat_tests}
use Rattle.std.proofs.lemmas.List.{length-append}
use Rattle.std.specs.List.{prefix_len}
use Rattle.dart_token.specs.declared.sign.Sign.{Sign}
use Rattle.dart_token.specs.declared.sign.Sign.TheVariants as s
use Rattle.dart_token.specs.declared.token.Quote.{Quote}
use Rattle.dart_token.specs.declared.token.Quote.TheVariants as q
use Rattle.dart_token.specs.declared.token.TokenKind.{TokenKind}
use Rattle.dart_token.specs.declared.token.TokenKind.TheVariants as t
use Rattle.dart_token.specs.Sign.{sign_text}
use Rattle.dart_token.specs.Word.{word_text}
use Rattle.dart_token.specs.Lookup.{word_of}
use Rattle.dart_pieces.specs.declared.piece.PieceClass.TheVariants as k
use Rattle.dart_pieces.specs.Bytes.{is_letter, is_word_byte, is_digit, is_hex_digit, is_x, is_name_byte, is_name_start, is_inner, in_line, Passes, Stops, IsRun}
use Rattle.dart_pieces.specs.Strings.{quote_byte, Element, plain, escaped, two, four, braced, named, element_bytes, elements_bytes, Fits, AllFit, IsString, interpolation, in_raw, IsRaw}
use Rattle.dart_pieces.specs.Pieces.{IsAllowed, IsPiece}
use Rattle.dart_pieces.specs.Marks.{Found}
use Rattle.dart_pieces.specs.Reader.{name_kind, name_found, raw_quote, hex_len, double_len, string_at, piece_at}
use Rattle.dart_pieces.proofs.RunLaws.{by_bool, and_true, run_stops, run_passes, take_front_at, drop_front, append_passes}
use Rattle.dart_pieces.proofs.NameLaws.{identifier_kind, word_kind, word_run, letter_in_word, word_no_quote}
use Rattle.dart_pieces.proofs.NumberLaws.{no_hex}
use Rattle.dart_pieces.proofs.QuoteLaws.{closed_found, open_found, closed_no_quotes, open_no_quotes, raw_exact}
use Rattle.dart_pieces.proofs.PieceLaws.{at_letter, at_digit, at_quote, at_brace, at_raw}

-- a blank or an end of a line
abbrev pub IsGap : ℕ → Type 0
IsGap b = (b ≡ 32) ⊎ (b ≡ 10)

gap_stops : (p : ℕ → Bool) (b : ℕ) (more : List ℕ) → IsGap b → p 32 ≡ false → p 10 ≡ false → Stops p (b ∷ more)
gap_stops p b more (inl e) f g = rw e f
gap_stops p b more (inr e) f g = rw e g

-- ---- signs

sign_before_blank : (around : Option Quote) (sign : Sign) (more : List ℕ) → IsAllowed around sign → piece_at around (sign_text sign ++ (32 ∷ more)) ≡ (k.Lexeme (t.Sign sign), length (sign_text sign))
sign_before_blank around s.LeftParenthesis [] h = refl
sign_before_blank around s.LeftParenthesis (x ∷ more) h = refl
sign_before_blank around s.RightParenthesis [] h = refl
sign_before_blank around s.RightParenthesis (x ∷ more) h = refl
sign_before_blank around s.LeftBracket [] h = refl
sign_before_blank around s.LeftBracket (x ∷ more) h = refl
sign_before_blank around s.RightBracket [] h = refl
sign_before_blank around s.RightBracket (x ∷ more) h = refl
sign_before_blank around s.LeftBrace [] h = refl
sign_before_blank around s.LeftBrace (x ∷ more) h = refl
sign_before_blank None s.RightBrace [] h = refl
sign_before_blank None s.RightBrace (x ∷ more) h = refl
sign_before_blank (Some quote) s.RightBrace more h = absurd (h refl)
sign_before_blank around s.Semicolon [] h = refl
sign_before_blank around s.Semicolon (x ∷ more) h = refl
sign_before_blank around s.Comma [] h = refl
sign_before_blank around s.Comma (x ∷ more) h = refl
sign_before_blank around s.Dot [] h = refl
sign_before_blank around s.Dot (x ∷ more) h = refl
sign_before_blank around s.DotDot [] h = refl
sign_before_blank around s.DotDot (x ∷ more) h = refl
sign_before_blank around s.Colon [] h = refl
sign_before_blank around s.Colon (x ∷ more) h = refl
sign_before_blank around s.Question [] h = refl
sign_before_blank around s.Question (x ∷ more) h = refl
sign_before_blank around s.AtSign [] h = refl
sign_before_blank around s.AtSign (x ∷ more) h = refl
sign_before_blank around s.Assign [] h = refl
sign_before_blank around s.Assign (x ∷ more) h = refl
sign_before_blank around s.Arrow [] h = refl
sign_before_blank around s.Arrow (x ∷ more) h = refl
sign_before_blank around s.EqualEqual [] h = refl
sign_before_blank around s.EqualEqual (x ∷ more) h = refl
sign_before_blank around s.NotEqual [] h = refl
sign_before_blank around s.NotEqual (x ∷ more) h = refl
sign_before_blank around s.Less [] h = refl
sign_before_blank around s.Less (x ∷ more) h = refl
sign_before_blank around s.Greater [] h = refl
sign_before_blank around s.Greater (x ∷ more) h = refl
sign_before_blank around s.LessEqual [] h = refl
sign_before_blank around s.LessEqual (x ∷ more) h = refl
sign_before_blank around s.GreaterEqual [] h = refl
sign_before_blank around s.GreaterEqual (x ∷ more) h = refl
sign_before_blank around s.ShiftLeft [] h = refl
sign_before_blank around s.ShiftLeft (x ∷ more) h = refl
sign_before_blank around s.Plus [] h = refl
sign_before_blank around s.Plus (x ∷ more) h = refl
sign_before_blank around s.Minus [] h = refl
sign_before_blank around s.Minus (x ∷ more) h = refl
sign_before_blank around s.Star [] h = refl
sign_before_blank around s.Star (x ∷ more) h = refl
sign_before_blank around s.Slash [] h = refl
sign_before_blank around s.Slash (x ∷ more) h = refl
sign_before_blank around s.TildeSlash [] h = refl
sign_before_blank around s.TildeSlash (x ∷ more) h = refl
sign_before_blank around s.Percent [] h = refl
sign_before_blank around s.Percent (x ∷ more) h = refl
sign_before_blank around s.Ampersand [] h = refl
sign_before_blank around s.Ampersand (x ∷ more) h = refl
sign_before_blank around s.Bar [] h = refl
sign_before_blank around s.Bar (x ∷ more) h = refl
sign_before_blank around s.Caret [] h = refl
sign_before_blank around s.Caret (x ∷ more) h = refl
sign_before_blank around s.Tilde [] h = refl
sign_before_blank around s.Tilde (x ∷ more) h = refl
sign_before_blank around s.Bang [] h = refl
sign_before_blank around s.Bang (x ∷ more) h = refl
sign_before_blank around s.AndAnd [] h = refl
sign_before_blank around s.AndAnd (x ∷ more) h = refl
sign_before_blank around s.OrOr [] h = refl
sign_before_blank around s.OrOr (x ∷ more) h = refl
sign_before_blank around s.PlusPlus [] h = refl
sign_before_blank around s.PlusPlus (x ∷ more) h = refl
sign_before_blank around s.MinusMinus [] h = refl
sign_before_blank around s.MinusMinus (x ∷ more) h = refl
sign_before_blank around s.PlusAssign [] h = refl
sign_before_blank around s.PlusAssign (x ∷ more) h = refl
sign_before_blank around s.MinusAssign [] h = refl
sign_before_blank around s.MinusAssign (x ∷ more) h = refl
sign_before_blank around s.StarAssign [] h = refl
sign_before_blank around s.StarAssign (x ∷ more) h = refl
sign_before_blank around s.SlashAssign [] h = refl
sign_before_blank around s.SlashAssign (x ∷ more) h = refl
sign_before_blank around s.TildeSlashAssign [] h = refl
sign_before_blank around s.TildeSlashAssign (x ∷ more) h = refl
sign_before_blank around s.PercentAssign [] h = refl
sign_before_blank around s.PercentAssign (x ∷ more) h = refl
sign_before_blank around s.AmpersandAssign [] h = refl
sign_before_blank around s.AmpersandAssign (x ∷ more) h = refl
sign_before_blank around s.BarAssign [] h = refl
sign_before_blank around s.BarAssign (x ∷ more) h = refl
sign_before_blank around s.CaretAssign [] h = refl
sign_before_blank around s.CaretAssign (x ∷ more) h = refl
sign_before_blank around s.ShiftLeftAssign [] h = refl
sign_before_blank around s.ShiftLeftAssign (x ∷ more) h = refl

sign_before_end : (around : Option Quote) (sign : Sign) (more : List ℕ) → IsAllowed around sign → piece_at around (sign_text sign ++ (10 ∷ more)) ≡ (k.Lexeme (t.Sign sign), length (sign_text sign))
sign_before_end around s.LeftParenthesis [] h = refl
sign_before_end around s.LeftParenthesis (x ∷ more) h = refl
sign_before_end around s.RightParenthesis [] h = refl
sign_before_end around s.RightParenthesis (x ∷ more) h = refl
sign_before_end around s.LeftBracket [] h = refl
sign_before_end around s.LeftBracket (x ∷ more) h = refl
sign_before_end around s.RightBracket [] h = refl
sign_before_end around s.RightBracket (x ∷ more) h = refl
sign_before_end around s.LeftBrace [] h = refl
sign_before_end around s.LeftBrace (x ∷ more) h = refl
sign_before_end None s.RightBrace [] h = refl
sign_before_end None s.RightBrace (x ∷ more) h = refl
sign_before_end (Some quote) s.RightBrace more h = absurd (h refl)
sign_before_end around s.Semicolon [] h = refl
sign_before_end around s.Semicolon (x ∷ more) h = refl
sign_before_end around s.Comma [] h = refl
sign_before_end around s.Comma (x ∷ more) h = refl
sign_before_end around s.Dot [] h = refl
sign_before_end around s.Dot (x ∷ more) h = refl
sign_before_end around s.DotDot [] h = refl
sign_before_end around s.DotDot (x ∷ more) h = refl
sign_before_end around s.Colon [] h = refl
sign_before_end around s.Colon (x ∷ more) h = refl
sign_before_end around s.Question [] h = refl
sign_before_end around s.Question (x ∷ more) h = refl
sign_before_end around s.AtSign [] h = refl
sign_before_end around s.AtSign (x ∷ more) h = refl
sign_before_end around s.Assign [] h = refl
sign_before_end around s.Assign (x ∷ more) h = refl
sign_before_end around s.Arrow [] h = refl
sign_before_end around s.Arrow (x ∷ more) h = refl
sign_before_end around s.EqualEqual [] h = refl
sign_before_end around s.EqualEqual (x ∷ more) h = refl
sign_before_end around s.NotEqual [] h = refl
sign_before_end around s.NotEqual (x ∷ more) h = refl
sign_before_end around s.Less [] h = refl
sign_before_end around s.Less (x ∷ more) h = refl
sign_before_end around s.Greater [] h = refl
sign_before_end around s.Greater (x ∷ more) h = refl
sign_before_end around s.LessEqual [] h = refl
sign_before_end around s.LessEqual (x ∷ more) h = refl
sign_before_end around s.GreaterEqual [] h = refl
sign_before_end around s.GreaterEqual (x ∷ more) h = refl
sign_before_end around s.ShiftLeft [] h = refl
sign_before_end around s.ShiftLeft (x ∷ more) h = refl
sign_before_end around s.Plus [] h = refl
sign_before_end around s.Plus (x ∷ more) h = refl
sign_before_end around s.Minus [] h = refl
sign_before_end around s.Minus (x ∷ more) h = refl
sign_before_end around s.Star [] h = refl
sign_before_end around s.Star (x ∷ more) h = refl
sign_before_end around s.Slash [] h = refl
sign_before_end around s.Slash (x ∷ more) h = refl
sign_before_end around s.TildeSlash [] h = refl
sign_before_end around s.TildeSlash (x ∷ more) h = refl
sign_before_end around s.Percent [] h = refl
sign_before_end around s.Percent (x ∷ more) h = refl
sign_before_end around s.Ampersand [] h = refl
sign_before_end around s.Ampersand (x ∷ more) h = refl
sign_before_end around s.Bar [] h = refl
sign_before_end around s.Bar (x ∷ more) h = refl
sign_before_end around s.Caret [] h = refl
sign_before_end around s.Caret (x ∷ more) h = refl
sign_before_end around s.Tilde [] h = refl
sign_before_end around s.Tilde (x ∷ more) h = refl
sign_before_end around s.Bang [] h = refl
sign_before_end around s.Bang (x ∷ more) h = refl
sign_before_end around s.AndAnd [] h = refl
sign_before_end around s.AndAnd (x ∷ more) h = refl
sign_before_end around s.OrOr [] h = refl
sign_before_end around s.OrOr (x ∷ more) h = refl
sign_before_end around s.PlusPlus [] h = refl
sign_before_end around s.PlusPlus (x ∷ more) h = refl
sign_before_end around s.MinusMinus [] h = refl
sign_before_end around s.MinusMinus (x ∷ more) h = refl
sign_before_end around s.PlusAssign [] h = refl
sign_before_end around s.PlusAssign (x ∷ more) h = refl
sign_before_end around s.MinusAssign [] h = refl
sign_before_end around s.MinusAssign (x ∷ more) h = refl
sign_before_end around s.StarAssign [] h = refl
sign_before_end around s.StarAssign (x ∷ more) h = refl
sign_before_end around s.SlashAssign [] h = refl
sign_before_end around s.SlashAssign (x ∷ more) h = refl
sign_before_end around s.TildeSlashAssign [] h = refl
sign_before_end around s.TildeSlashAssign (x ∷ more) h = refl
sign_before_end around s.PercentAssign [] h = refl
sign_before_end around s.PercentAssign (x ∷ more) h = refl
sign_before_end around s.AmpersandAssign [] h = refl
sign_before_end around s.AmpersandAssign (x ∷ more) h = refl
sign_before_end around s.BarAssign [] h = refl
sign_before_end around s.BarAssign (x ∷ more) h = refl
sign_before_end around s.CaretAssign [] h = refl
sign_before_end around s.CaretAssign (x ∷ more) h = refl
sign_before_end around s.ShiftLeftAssign [] h = refl
sign_before_end around s.ShiftLeftAssign (x ∷ more) h = refl

sign_stops : (around : Option Quote) (sign : Sign) (b : ℕ) (more : List ℕ) → IsGap b → IsAllowed around sign → piece_at around (sign_text sign ++ (b ∷ more)) ≡ (k.Lexeme (t.Sign sign), length (sign_text sign))
sign_stops around sign b more (inl e) h = rw e (sign_before_blank around sign more h)
sign_stops around sign b more (inr e) h = rw e (sign_before_end around sign more h)

-- nor does `>` before another
pub greater_stops : (around : Option Quote) (more : List ℕ) → piece_at around (62 ∷ 62 ∷ more) ≡ (k.Lexeme (t.Sign s.Greater), 1)
greater_stops around [] = refl
greater_stops around (x ∷ more) = refl

-- ---- names and integers

no_raw : (x : ℕ) (p : List ℕ) (b : ℕ) (more : List ℕ) → Passes is_word_byte p → IsGap b → raw_quote (x ∷ (p ++ (b ∷ more))) ≡ None
no_raw x [] b more h (inl e) = rw e (by_bool (x == 114) (λ y. rw y refl) (λ y. rw y refl))
no_raw x [] b more h (inr e) = rw e (by_bool (x == 114) (λ y. rw y refl) (λ y. rw y refl))
no_raw x (y ∷ p) b more h gap = rw (word_no_quote y h.0) (by_bool (x == 114) (λ y. rw y refl) (λ y. rw y refl))

name_stops : (around : Option Quote) (kind : TokenKind) (p : List ℕ) (b : ℕ) (more : List ℕ) → IsGap b → IsRun is_letter is_word_byte p → name_kind (word_of p) ≡ kind → piece_at around (p ++ (b ∷ more)) ≡ (k.Lexeme kind, length p)
name_stops around kind [] b more gap h e = absurd h
name_stops around kind (x ∷ p) b more gap h e =
    let run : Passes is_word_byte (x ∷ p) = run_passes is_letter is_word_byte (x ∷ p) letter_in_word h in
    let n : prefix_len is_word_byte ((x ∷ p) ++ (b ∷ more)) ≡ length (x ∷ p) = run_stops is_word_byte (x ∷ p) (b ∷ more) run (gap_stops is_word_byte b more gap refl refl) in
    let none : raw_quote (x ∷ (p ++ (b ∷ more))) ≡ None = no_raw x p b more run.1 gap in
    let front : take (prefix_len is_word_byte ((x ∷ p) ++ (b ∷ more))) ((x ∷ p) ++ (b ∷ more)) ≡ x ∷ p = take_front_at _ (x ∷ p) (b ∷ more) n in
    let same : name_kind (word_of (take (prefix_len is_word_byte ((x ∷ p) ++ (b ∷ more))) ((x ∷ p) ++ (b ∷ more)))) ≡ kind = ap (λ z. name_kind (word_of z)) front ∙ e in
    let found : name_found (prefix_len is_word_byte ((x ∷ p) ++ (b ∷ more))) ((x ∷ p) ++ (b ∷ more)) ≡ (k.Lexeme kind, length (x ∷ p)) = pair (ap k.Lexeme same) n in
    rw (at_letter around x (p ++ (b ∷ more)) h.0) (rw none found)
  where
    pair : {A : Type 0} {x y : A} {u v : ℕ} → x ≡ y → u ≡ v → ◌≡◌ {A = A × ℕ} (x, u) (y, v)
    pair e f = cc

no_double : (b : ℕ) (more : List ℕ) → IsGap b → double_len (b ∷ more) ≡ 0
no_double b [] gap = refl
no_double b (x ∷ []) (inl e) = rw e refl
no_double b (x ∷ []) (inr e) = rw e refl
no_double b (x ∷ y ∷ more) (inl e) = rw e refl
no_double b (x ∷ y ∷ more) (inr e) = rw e refl

digits_stop : (around : Option Quote) (p : List ℕ) (b : ℕ) (more : List ℕ) → IsGap b → IsRun is_digit is_digit p → piece_at around (p ++ (b ∷ more)) ≡ (k.Lexeme t.Integer, length p)
digits_stop around [] b more gap h = absurd h
digits_stop around (x ∷ p) b more gap h =
    let run : Passes is_digit (x ∷ p) = (h.0, h.1) in
    let hex : hex_len (x ∷ (p ++ (b ∷ more))) ≡ 0 = no_hex (x ∷ p) (b ∷ more) run (gap_stops is_x b more gap refl refl) (omega arith) in
    let n : prefix_len is_digit (x ∷ (p ++ (b ∷ more))) ≡ length (x ∷ p) = run_stops is_digit (x ∷ p) (b ∷ more) run (gap_stops is_digit b more gap refl refl) in
    rw (at_digit around x (p ++ (b ∷ more)) h.0) (rw hex (rw n (rw (drop_front (x ∷ p) (b ∷ more)) (rw (no_double b more gap) refl))))

hex_stops : (around : Option Quote) (x : ℕ) (digits : List ℕ) (b : ℕ) (more : List ℕ) → IsGap b → is_x x ≡ true → IsRun is_hex_digit is_hex_digit digits → piece_at around (48 ∷ x ∷ (digits ++ (b ∷ more))) ≡ (k.Lexeme t.Integer, length (48 ∷ x ∷ digits))
hex_stops around x digits b more gap isx h =
    let run : Passes is_hex_digit digits = run_passes is_hex_digit is_hex_digit digits (λ b e. e) h in
    let n : prefix_len is_hex_digit (digits ++ (b ∷ more)) ≡ length digits = run_stops is_hex_digit digits (b ∷ more) run (gap_stops is_hex_digit b more gap refl refl) in
    let hex : hex_len (48 ∷ x ∷ (digits ++ (b ∷ more))) ≡ length digits = rw isx n in
    let some : 0 < length digits = some_digits digits h in
    let no : (length digits == 0) ≡ false = grind (arith, nat_tests) in
    let size : 2 + length digits ≡ length (48 ∷ x ∷ digits) = omega arith in
    rw hex (rw no (ap (λ m. (k.Lexeme t.Integer, m)) size))
  where
    some_digits : (digits : List ℕ) → IsRun is_hex_digit is_hex_digit digits → 0 < length digits
    some_digits [] h = absurd h
    some_digits (d ∷ digits) h = omega arith

-- ---- strings: what ends them is theirs

closed_stops : (quote : Quote) (first : ℕ) (kind head : TokenKind) (p rest : List ℕ) (found : List ℕ → Found) → ((more : List ℕ) → found (first ∷ more) ≡ string_at quote (k.Lexeme kind) (k.Lexeme head) more)
    → IsString quote first (quote_byte quote ∷ []) p → found (p ++ rest) ≡ (k.Lexeme kind, length p)
closed_stops quote first kind head p rest found at (es, e, fit) =
    let more : (elements_bytes es ++ quote_byte quote ∷ []) ++ rest ≡ elements_bytes es ++ (quote_byte quote ∷ rest) = append_assoc (elements_bytes es) (quote_byte quote ∷ []) rest in
    let size : length (elements_bytes es ++ quote_byte quote ∷ []) ≡ length (elements_bytes es) + 1 = length-append (elements_bytes es) (quote_byte quote ∷ []) in
    let n : 2 + length (elements_bytes es) ≡ suc (length (elements_bytes es ++ quote_byte quote ∷ [])) = omega arith in
    rw e (rw (at ((elements_bytes es ++ quote_byte quote ∷ []) ++ rest)) (rw more (closed_found quote (k.Lexeme kind) (k.Lexeme head) es rest fit ∙ ap (λ m. (k.Lexeme kind, m)) n)))

open_stops : (quote : Quote) (first : ℕ) (kind head : TokenKind) (p rest : List ℕ) (found : List ℕ → Found) → ((more : List ℕ) → found (first ∷ more) ≡ string_at quote (k.Lexeme kind) (k.Lexeme head) more)
    → IsString quote first interpolation p → found (p ++ rest) ≡ (k.Lexeme head, length p)
open_stops quote first kind head p rest found at (es, e, fit) =
    let more : (elements_bytes es ++ interpolation) ++ rest ≡ elements_bytes es ++ (36 ∷ 123 ∷ rest) = append_assoc (elements_bytes es) interpolation rest in
    let size : length (elements_bytes es ++ interpolation) ≡ length (elements_bytes es) + 2 = length-append (elements_bytes es) interpolation in
    let n : 3 + length (elements_bytes es) ≡ suc (length (elements_bytes es ++ interpolation)) = omega arith in
    rw e (rw (at ((elements_bytes es ++ interpolation) ++ rest)) (rw more (open_found quote (k.Lexeme kind) (k.Lexeme head) es rest fit ∙ ap (λ m. (k.Lexeme head, m)) n)))

gap_no_quote : (quote : Quote) (b : ℕ) → IsGap b → (b == quote_byte quote) ≡ false
gap_no_quote q.Single b (inl e) = rw e refl
gap_no_quote q.Single b (inr e) = rw e refl
gap_no_quote q.Double b (inl e) = rw e refl
gap_no_quote q.Double b (inr e) = rw e refl

whole_stops : (around : Option Quote) (quote : Quote) (p : List ℕ) (b : ℕ) (rest : List ℕ) → IsGap b → IsString quote (quote_byte quote) (quote_byte quote ∷ []) p → piece_at around (p ++ (b ∷ rest)) ≡ (k.Lexeme t.Whole, length p)
whole_stops around quote p b rest gap (es, e, fit) =
    let more : (elements_bytes es ++ quote_byte quote ∷ []) ++ (b ∷ rest) ≡ elements_bytes es ++ (quote_byte quote ∷ b ∷ rest) = append_assoc (elements_bytes es) (quote_byte quote ∷ []) (b ∷ rest) in
    let size : length (elements_bytes es ++ quote_byte quote ∷ []) ≡ length (elements_bytes es) + 1 = length-append (elements_bytes es) (quote_byte quote ∷ []) in
    let n : 2 + length (elements_bytes es) ≡ suc (length (elements_bytes es ++ quote_byte quote ∷ [])) = omega arith in
    rw e (rw (at_quote around quote ((elements_bytes es ++ quote_byte quote ∷ []) ++ (b ∷ rest))) (rw more (rw (closed_no_quotes quote es b rest fit (gap_no_quote quote b gap))
    (closed_found quote (k.Lexeme t.Whole) (k.Lexeme (t.Head quote)) es (b ∷ rest) fit ∙ ap (λ m. (k.Lexeme t.Whole, m)) n))))

head_stops : (around : Option Quote) (quote : Quote) (p rest : List ℕ) → IsString quote (quote_byte quote) interpolation p → piece_at around (p ++ rest) ≡ (k.Lexeme (t.Head quote), length p)
head_stops around quote p rest (es, e, fit) =
    let more : (elements_bytes es ++ interpolation) ++ rest ≡ elements_bytes es ++ (36 ∷ 123 ∷ rest) = append_assoc (elements_bytes es) interpolation rest in
    let size : length (elements_bytes es ++ interpolation) ≡ length (elements_bytes es) + 2 = length-append (elements_bytes es) interpolation in
    let n : 3 + length (elements_bytes es) ≡ suc (length (elements_bytes es ++ interpolation)) = omega arith in
    rw e (rw (at_quote around quote ((elements_bytes es ++ interpolation) ++ rest)) (rw more (rw (open_no_quotes quote es rest fit)
    (open_found quote (k.Lexeme t.Whole) (k.Lexeme (t.Head quote)) es rest fit ∙ ap (λ m. (k.Lexeme (t.Head quote), m)) n))))

raw_stops_at : (around : Option Quote) (quote : Quote) (p : List ℕ) (b : ℕ) (rest : List ℕ) → IsGap b → IsRaw quote p → piece_at around (p ++ (b ∷ rest)) ≡ (k.Lexeme t.Whole, length p)
raw_stops_at around quote p b rest gap (bytes, e, h) =
    let more : (bytes ++ quote_byte quote ∷ []) ++ (b ∷ rest) ≡ bytes ++ (quote_byte quote ∷ b ∷ rest) = append_assoc bytes (quote_byte quote ∷ []) (b ∷ rest) in
    let size : length (bytes ++ quote_byte quote ∷ []) ≡ length bytes + 1 = length-append bytes (quote_byte quote ∷ []) in
    let n : 3 + length bytes ≡ suc (suc (length (bytes ++ quote_byte quote ∷ []))) = omega arith in
    rw e (rw (at_raw around quote ((bytes ++ quote_byte quote ∷ []) ++ (b ∷ rest))) (rw more (raw_exact quote bytes b rest h (gap_no_quote quote b gap) ∙ ap (λ m. (k.Lexeme t.Whole, m)) n)))

-- ---- each token

pub stops : (around : Option Quote) (kind : TokenKind) (p : List ℕ) (b : ℕ) (more : List ℕ) → IsGap b → IsPiece around (k.Lexeme kind) p → piece_at around (p ++ (b ∷ more)) ≡ (k.Lexeme kind, length p)
stops around t.Identifier p b more gap h = name_stops around t.Identifier p b more gap h.0 (identifier_kind p h.1)
stops around (t.Word word) p b more gap e = rw e (name_stops around (t.Word word) (word_text word) b more gap (word_run word) (word_kind word))
stops around t.Integer p b more gap (inl h) = digits_stop around p b more gap h
stops around t.Integer p b more gap (inr (x, digits, e, isx, h)) = rw e (hex_stops around x digits b more gap isx h)
stops around t.Whole p b more gap (quote, inl h) = whole_stops around quote p b more gap h
stops around t.Whole p b more gap (quote, inr h) = raw_stops_at around quote p b more gap h
stops around (t.Head quote) p b more gap h = head_stops around quote p (b ∷ more) h
stops None t.Middle p b more gap h = absurd h
stops (Some quote) t.Middle p b more gap h = open_stops quote 125 t.Tail t.Middle p (b ∷ more) (piece_at (Some quote)) (at_brace quote) h
stops None t.Tail p b more gap h = absurd h
stops (Some quote) t.Tail p b more gap h = closed_stops quote 125 t.Tail t.Middle p (b ∷ more) (piece_at (Some quote)) (at_brace quote) h
stops around (t.Sign sign) p b more gap h = rw h.0 (sign_stops around sign b more gap h.1)

-- ---- no end of a line in a token

weaken : (p r : ℕ → Bool) (bytes : List ℕ) → ((b : ℕ) → p b ≡ true → r b ≡ true) → Passes p bytes → Passes r bytes
weaken p r [] f h = tt
weaken p r (b ∷ bytes) f h = (f b h.0, weaken p r bytes f h.1)

word_in_line : (b : ℕ) → is_word_byte b ≡ true → in_line b ≡ true
word_in_line b e = grind (arith, nat_tests)

hex_in_line : (b : ℕ) → is_hex_digit b ≡ true → in_line b ≡ true
hex_in_line b e = grind (arith, nat_tests)

digit_in_line : (b : ℕ) → is_digit b ≡ true → in_line b ≡ true
digit_in_line b e = grind (arith, nat_tests)

x_in_line : (b : ℕ) → is_x b ≡ true → in_line b ≡ true
x_in_line b e = grind (arith, nat_tests)

name_in_line : (b : ℕ) → is_name_byte b ≡ true → in_line b ≡ true
name_in_line b e = grind (arith, nat_tests)

start_in_name : (b : ℕ) → is_name_start b ≡ true → is_name_byte b ≡ true
start_in_name b e = grind (arith, nat_tests)

inner_in_line : (b : ℕ) → is_inner b ≡ true → in_line b ≡ true
inner_in_line b e = grind (arith, nat_tests)

quote_in_line : (quote : Quote) → in_line (quote_byte quote) ≡ true
quote_in_line q.Single = refl
quote_in_line q.Double = refl

element_in_line : (quote : Quote) (e : Element) (behind : List ℕ) → Fits quote e behind → Passes in_line (element_bytes e)
element_in_line quote (plain b) behind h = (inner_in_line b ((and_true _ (is_inner b) h).1), tt)
element_in_line quote (escaped b) behind h = (refl, (inner_in_line b ((and_true _ (is_inner b) h).1), tt))
element_in_line quote (two a b) behind h = (refl, (refl, weaken is_hex_digit in_line (a ∷ b ∷ []) hex_in_line h))
element_in_line quote (four a b c d) behind h = (refl, (refl, weaken is_hex_digit in_line (a ∷ b ∷ c ∷ d ∷ []) hex_in_line h))
element_in_line quote (braced digits) behind h = (refl, (refl, (refl, append_passes in_line digits (125 ∷ []) (weaken is_hex_digit in_line digits hex_in_line (run_passes is_hex_digit is_hex_digit digits (λ b e. e) h.0)) (refl, tt))))
element_in_line quote (named name) behind h = (refl, weaken is_name_byte in_line name name_in_line (run_passes is_name_start is_name_byte name start_in_name h.0.0))

elements_in_line : (quote : Quote) (es : List Element) → AllFit quote es → Passes in_line (elements_bytes es)
elements_in_line quote [] h = tt
elements_in_line quote (e ∷ es) h = append_passes in_line (element_bytes e) (elements_bytes es) (element_in_line quote e (elements_bytes es) h.0) (elements_in_line quote es h.1)

string_in_line : (quote : Quote) (first : ℕ) (last p : List ℕ) → in_line first ≡ true → Passes in_line last → IsString quote first last p → Passes in_line p
string_in_line quote first last p f l (es, e, fit) = rw e (f, append_passes in_line (elements_bytes es) last (elements_in_line quote es fit) l)

raw_in_line : (quote : Quote) (p : List ℕ) → IsRaw quote p → Passes in_line p
raw_in_line quote p (bytes, e, h) = rw e (refl, (quote_in_line quote, append_passes in_line bytes (quote_byte quote ∷ []) (weaken (in_raw quote) in_line bytes (λ b f. inner_in_line b ((and_true _ (is_inner b) f).1)) h) (quote_in_line quote, tt)))

sign_in_line : (sign : Sign) → Passes in_line (sign_text sign)
sign_in_line s.LeftParenthesis = (refl, tt)
sign_in_line s.RightParenthesis = (refl, tt)
sign_in_line s.LeftBracket = (refl, tt)
sign_in_line s.RightBracket = (refl, tt)
sign_in_line s.LeftBrace = (refl, tt)
sign_in_line s.RightBrace = (refl, tt)
sign_in_line s.Semicolon = (refl, tt)
sign_in_line s.Comma = (refl, tt)
sign_in_line s.Dot = (refl, tt)
sign_in_line s.DotDot = (refl, (refl, tt))
sign_in_line s.Colon = (refl, tt)
sign_in_line s.Question = (refl, tt)
sign_in_line s.AtSign = (refl, tt)
sign_in_line s.Assign = (refl, tt)
sign_in_line s.Arrow = (refl, (refl, tt))
sign_in_line s.EqualEqual = (refl, (refl, tt))
sign_in_line s.NotEqual = (refl, (refl, tt))
sign_in_line s.Less = (refl, tt)
sign_in_line s.Greater = (refl, tt)
sign_in_line s.LessEqual = (refl, (refl, tt))
sign_in_line s.GreaterEqual = (refl, (refl, tt))
sign_in_line s.ShiftLeft = (refl, (refl, tt))
sign_in_line s.Plus = (refl, tt)
sign_in_line s.Minus = (refl, tt)
sign_in_line s.Star = (refl, tt)
sign_in_line s.Slash = (refl, tt)
sign_in_line s.TildeSlash = (refl, (refl, tt))
sign_in_line s.Percent = (refl, tt)
sign_in_line s.Ampersand = (refl, tt)
sign_in_line s.Bar = (refl, tt)
sign_in_line s.Caret = (refl, tt)
sign_in_line s.Tilde = (refl, tt)
sign_in_line s.Bang = (refl, tt)
sign_in_line s.AndAnd = (refl, (refl, tt))
sign_in_line s.OrOr = (refl, (refl, tt))
sign_in_line s.PlusPlus = (refl, (refl, tt))
sign_in_line s.MinusMinus = (refl, (refl, tt))
sign_in_line s.PlusAssign = (refl, (refl, tt))
sign_in_line s.MinusAssign = (refl, (refl, tt))
sign_in_line s.StarAssign = (refl, (refl, tt))
sign_in_line s.SlashAssign = (refl, (refl, tt))
sign_in_line s.TildeSlashAssign = (refl, (refl, (refl, tt)))
sign_in_line s.PercentAssign = (refl, (refl, tt))
sign_in_line s.AmpersandAssign = (refl, (refl, tt))
sign_in_line s.BarAssign = (refl, (refl, tt))
sign_in_line s.CaretAssign = (refl, (refl, tt))
sign_in_line s.ShiftLeftAssign = (refl, (refl, (refl, tt)))

pub token_in_line : (around : Option Quote) (kind : TokenKind) (p : List ℕ) → IsPiece around (k.Lexeme kind) p → Passes in_line p
token_in_line around t.Identifier p h = weaken is_word_byte in_line p word_in_line (run_passes is_letter is_word_byte p letter_in_word h.0)
token_in_line around (t.Word word) p e = rw e (weaken is_word_byte in_line (word_text word) word_in_line (run_passes is_letter is_word_byte (word_text word) letter_in_word (word_run word)))
token_in_line around t.Integer p (inl h) = weaken is_digit in_line p digit_in_line (run_passes is_digit is_digit p (λ b e. e) h)
token_in_line around t.Integer p (inr (x, digits, e, isx, h)) = rw e (refl, (x_in_line x isx, weaken is_hex_digit in_line digits hex_in_line (run_passes is_hex_digit is_hex_digit digits (λ b e. e) h)))
token_in_line around t.Whole p (quote, inl h) = string_in_line quote (quote_byte quote) (quote_byte quote ∷ []) p (quote_in_line quote) (quote_in_line quote, tt) h
token_in_line around t.Whole p (quote, inr h) = raw_in_line quote p h
token_in_line around (t.Head quote) p h = string_in_line quote (quote_byte quote) interpolation p (quote_in_line quote) (refl, (refl, tt)) h
token_in_line None t.Middle p h = absurd h
token_in_line (Some quote) t.Middle p h = string_in_line quote 125 interpolation p refl (refl, (refl, tt)) h
token_in_line None t.Tail p h = absurd h
token_in_line (Some quote) t.Tail p h = string_in_line quote 125 (quote_byte quote ∷ []) p refl (quote_in_line quote, tt) h
token_in_line around (t.Sign sign) p h = rw h.0 (sign_in_line sign)
