-- Means of proof, which no public contract cites: the piece that begins a text, as found by the code.
use Rattle.std.specs.Prelude.{◌==◌, ℕ, zero, suc, take, drop, ◌+◌, nat_lt, nat_le, length, List, [], ◌∷◌, Bool, true, false, ◌&&◌, ◌||◌, if◌then◌else◌, Option, Some, None}
use Rattle.std.specs.List.{prefix_len}
use Rattle.std.specs.Str.{byte}
use Rattle.dart_token.specs.declared.word.Word.{Word}
use Rattle.dart_token.specs.declared.token.Quote.{Quote}
use Rattle.dart_token.specs.declared.token.TokenKind.{TokenKind}
use Rattle.dart_token.specs.declared.token.TokenKind.TheVariants as t
use Rattle.dart_token.specs.Lookup.{word_of}
use Rattle.dart_pieces.specs.declared.piece.PieceClass.{PieceClass}
use Rattle.dart_pieces.specs.declared.piece.PieceClass.TheVariants as k
use Rattle.dart_pieces.specs.declared.piece.LexReason.TheVariants as r
use Rattle.dart_pieces.specs.Bytes.{is_name_start, is_name_byte, is_blank, is_digit, is_letter, is_word_byte, is_hex_digit, is_x, is_exponent, is_plus_or_minus, in_line}
use Rattle.dart_pieces.specs.Comments.{is_open_mark, is_close_mark}
use Rattle.dart_pieces.specs.Numbers.{value_in}
use Rattle.dart_pieces.specs.Strings.{quote_byte, quote_of, is_plain, is_escaped, may_follow_dollar, in_raw}
use Rattle.dart_pieces.specs.Marks.{Found, mark_at}

abbrev pub after_two : List ℕ → List ℕ
after_two [] = []
after_two (a ∷ []) = []
after_two (a ∷ b ∷ more) = more

abbrev pub begins : ℕ → List ℕ → Bool
begins b [] = false
begins b (a ∷ more) = a == b

-- ---- numbers

abbrev pub hex_len : List ℕ → ℕ
hex_len [] = 0
hex_len (a ∷ []) = 0
hex_len (a ∷ x ∷ more) = if (a == byte "0") && is_x x then prefix_len is_hex_digit more else 0

-- what makes the digits before the text a double, if anything does
abbrev pub double_len : List ℕ → ℕ
double_len [] = 0
double_len (a ∷ []) = 0
double_len (a ∷ b ∷ []) = if ((a == byte ".") || is_exponent a) && is_digit b then 2 else 0
double_len (a ∷ b ∷ c ∷ more) = if ((a == byte ".") || is_exponent a) && is_digit b then 2
    else if is_exponent a && (is_plus_or_minus b && is_digit c) then 3 else 0

-- after that many digits
abbrev pub decimal_at : ℕ → ℕ → Found
decimal_at n tail = if tail == 0 then (k.Lexeme t.Integer, n) else (k.Refused r.Fraction, n + tail)

abbrev pub number_at : List ℕ → Found
number_at text = if hex_len text == 0
    then decimal_at (prefix_len is_digit text) (double_len (drop (prefix_len is_digit text) text))
    else (k.Lexeme t.Integer, 2 + hex_len text)

-- ---- comments

abbrev pub is_comment : List ℕ → Bool
is_comment [] = false
is_comment (a ∷ []) = false
is_comment (a ∷ b ∷ more) = (a == byte "/") && (b == byte "/")

abbrev pub is_block : List ℕ → Bool
is_block [] = false
is_block (a ∷ []) = false
is_block (a ∷ b ∷ more) = (a == byte "/") && (b == byte "*")

abbrev pub plus : ℕ → Option ℕ → Option ℕ
plus n None = None
plus n (Some m) = Some (n + m)

-- how many bytes close the comments that are open, if they do
abbrev pub scan : ℕ → List ℕ → Option ℕ
scan zero text = Some 0
scan (suc d) [] = None
scan (suc d) (x ∷ []) = None
scan (suc d) (x ∷ y ∷ more) = if is_open_mark x y then plus 2 (scan (suc (suc d)) more)
    else if is_close_mark x y then plus 2 (scan d more) else plus 1 (scan (suc d) (y ∷ more))

abbrev pub block_found : Option ℕ → Found
block_found None = (k.Refused r.Unknown, 2)
block_found (Some n) = (k.Comment, 2 + n)

-- ---- strings

abbrev pub begins_two_hex : List ℕ → Bool
begins_two_hex [] = false
begins_two_hex (a ∷ []) = false
begins_two_hex (a ∷ b ∷ more) = is_hex_digit a && is_hex_digit b

abbrev pub begins_four_hex : List ℕ → Bool
begins_four_hex [] = false
begins_four_hex (a ∷ []) = false
begins_four_hex (a ∷ b ∷ []) = false
begins_four_hex (a ∷ b ∷ c ∷ []) = false
begins_four_hex (a ∷ b ∷ c ∷ d ∷ more) =
    is_hex_digit a && (is_hex_digit b && (is_hex_digit c && is_hex_digit d))

-- whether that many digits, the next byte and the value make `\u{..}`
abbrev pub is_braced : ℕ → List ℕ → Bool
is_braced n more = nat_lt 0 n
    && (nat_le n 6 && (begins (byte "}") (drop n more) && nat_le (value_in 16 (take n more)) 0x10FFFF))

-- the length of an escape whose `\u{` stands before the text
abbrev pub braced_len : List ℕ → ℕ
braced_len more = if is_braced (prefix_len is_hex_digit more) more
    then 4 + prefix_len is_hex_digit more else 0

-- the length of an escape whose `\u` stands before the text
abbrev pub unit_len : List ℕ → ℕ
unit_len [] = 0
unit_len (a ∷ more) = if begins_four_hex (a ∷ more) then 6
    else if a == byte "{" then braced_len more else 0

-- the length of an escape whose `\` stands before the text
abbrev pub escape_len : List ℕ → ℕ
escape_len [] = 0
escape_len (a ∷ more) = if a == byte "x" then (if begins_two_hex more then 4 else 0)
    else if a == byte "u" then unit_len more
    else if is_escaped a then 2 else 0

abbrev pub may_follow : Option Word → Bool
may_follow None = true
may_follow (Some word) = may_follow_dollar word

-- the length of a name whose `$` stands before the text, with the `$`
abbrev pub shown_len : List ℕ → ℕ
shown_len [] = 0
shown_len (a ∷ more) =
    if is_name_start a && may_follow (word_of (take (prefix_len is_name_byte (a ∷ more)) (a ∷ more)))
    then 1 + prefix_len is_name_byte (a ∷ more) else 0

-- the length of the element at the front, or 0 where there is none
abbrev pub element_len : Quote → List ℕ → ℕ
element_len quote [] = 0
element_len quote (a ∷ more) = if is_plain quote a then 1
    else if a == byte "\\" then escape_len more else if a == byte "$" then shown_len more else 0

-- the length of at most so many elements
abbrev pub elements_len : ℕ → Quote → List ℕ → ℕ
elements_len zero quote text = 0
elements_len (suc n) quote text = if element_len quote text == 0 then 0
    else element_len quote text + elements_len n quote (drop (element_len quote text) text)

abbrev pub body_len : Quote → List ℕ → ℕ
body_len quote text = elements_len (length text) quote text

-- what a text is after a body of that many bytes
abbrev pub string_end : Quote → PieceClass → PieceClass → ℕ → List ℕ → Found
string_end quote ended head n [] = (k.Refused r.Unknown, 1)
string_end quote ended head n (a ∷ []) = if a == quote_byte quote then (ended, 2 + n)
    else (k.Refused r.Unknown, 1)
string_end quote ended head n (a ∷ b ∷ rest) = if a == quote_byte quote then (ended, 2 + n)
    else if (a == byte "$") && (b == byte "{") then (head, 3 + n) else (k.Refused r.Unknown, 1)

abbrev pub string_at : Quote → PieceClass → PieceClass → List ℕ → Found
string_at quote ended head more =
    string_end quote ended head (body_len quote more) (drop (body_len quote more) more)

abbrev pub begins_quotes : Quote → List ℕ → Bool
begins_quotes quote [] = false
begins_quotes quote (a ∷ []) = false
begins_quotes quote (a ∷ b ∷ more) = (a == quote_byte quote) && (b == quote_byte quote)

-- after a quote
abbrev pub quoted_at : Quote → List ℕ → Found
quoted_at quote more = if begins_quotes quote more then (k.Refused r.TripleQuotes, 3)
    else string_at quote (k.Lexeme t.Whole) (k.Lexeme (t.Head quote)) more

-- after `r`, a quote and that many bytes
abbrev pub raw_end : Quote → ℕ → List ℕ → Found
raw_end quote n rest = if begins (quote_byte quote) rest then (k.Lexeme t.Whole, 3 + n)
    else (k.Refused r.OpenRaw, 2)

-- after `r` and a quote
abbrev pub raw_at : Quote → List ℕ → Found
raw_at quote more = if begins_quotes quote more then (k.Refused r.TripleQuotes, 4)
    else raw_end quote (prefix_len (in_raw quote) more) (drop (prefix_len (in_raw quote) more) more)

-- ---- names

abbrev pub name_kind : Option Word → TokenKind
name_kind None = t.Identifier
name_kind (Some word) = t.Word word

abbrev pub name_found : ℕ → List ℕ → Found
name_found n text = (k.Lexeme (name_kind (word_of (take n text))), n)

-- the quote of the raw string that begins the text
abbrev pub raw_quote : List ℕ → Option Quote
raw_quote [] = None
raw_quote (a ∷ []) = None
raw_quote (a ∷ b ∷ more) = if a == byte "r" then quote_of b else None

abbrev pub raw_or : Option Quote → List ℕ → Found → Found
raw_or None more other = other
raw_or (Some quote) more other = raw_at quote more

abbrev pub letter_at : List ℕ → Found
letter_at text =
    raw_or (raw_quote text) (after_two text) (name_found (prefix_len is_word_byte text) text)

-- ----

abbrev pub closes_around : Option Quote → ℕ → Option Quote
closes_around around x = if x == byte "}" then around else None

abbrev pub string_or : Option Quote → Option Quote → List ℕ → Found → Found
string_or (Some quote) inner more other = quoted_at quote more
string_or None (Some quote) more other = string_at quote (k.Lexeme t.Tail) (k.Lexeme t.Middle) more
string_or None None more other = other

abbrev pub piece_at : Option Quote → List ℕ → Found
piece_at around [] = (k.Refused r.Unknown, 0)
piece_at around (x ∷ more) = if is_letter x then letter_at (x ∷ more)
    else if is_digit x then number_at (x ∷ more)
    else if is_blank x then (k.Blank, prefix_len is_blank (x ∷ more))
    else if is_comment (x ∷ more) then (k.Comment, 2 + prefix_len in_line (after_two (x ∷ more)))
    else if is_block (x ∷ more) then block_found (scan 1 (after_two (x ∷ more)))
    else string_or (quote_of x) (closes_around around x) more (mark_at (x ∷ more))
