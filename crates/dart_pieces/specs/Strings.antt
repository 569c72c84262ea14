-- Strings and their pieces (ECMA-408, 16.5 Strings and 16.5.1 String Interpolation).
use Rattle.std.specs.Prelude.{◌≡◌, ◌==◌, ◌≤◌, ℕ, ◌&&◌, not, ◌++◌, length, if◌then◌else◌, List, [], ◌∷◌, Bool, true, false, Option, Some, None, codes}
use Rattle.std.specs.Str.{byte}
use Rattle.dart_token.specs.declared.word.Word.{Word}
use Rattle.dart_token.specs.declared.word.Word.TheVariants as w
use Rattle.dart_token.specs.declared.token.Quote.{Quote}
use Rattle.dart_token.specs.declared.token.Quote.TheVariants as q
use Rattle.dart_token.specs.Word.{word_text}
use Rattle.dart_pieces.specs.Bytes.{is_inner, is_name_start, is_name_byte, is_hex_digit, Passes, Stops, IsRun}
use Rattle.dart_pieces.specs.Numbers.{value_in}

abbrev pub quote_byte : Quote → ℕ
quote_byte q.Single = byte "'"
quote_byte q.Double = byte "\""

abbrev pub quote_of : ℕ → Option Quote
quote_of b = if b == byte "'" then Some q.Single else if b == byte "\"" then Some q.Double else None

-- what a string is made of between its quotes
pub data Element : Type 0 where
  -- a byte that stands for itself
  plain : ℕ → Element
  -- `\` and a byte
  escaped : ℕ → Element
  -- `\x` and two digits
  two : ℕ → ℕ → Element
  -- `\u` and four digits
  four : ℕ → ℕ → ℕ → ℕ → Element
  -- `\u`, and digits in braces
  braced : List ℕ → Element
  -- `$` and a name
  named : List ℕ → Element

abbrev pub element_bytes : Element → List ℕ
element_bytes (plain b) = b ∷ []
element_bytes (escaped b) = byte "\\" ∷ b ∷ []
element_bytes (two a b) = codes "\\x" ++ a ∷ b ∷ []
element_bytes (four a b c d) = codes "\\u" ++ a ∷ b ∷ c ∷ d ∷ []
element_bytes (braced digits) = codes "\\u{" ++ digits ++ codes "}"
element_bytes (named name) = byte "$" ∷ name

abbrev pub elements_bytes : List Element → List ℕ
elements_bytes [] = []
elements_bytes (element ∷ elements) = element_bytes element ++ elements_bytes elements

-- a byte that is no quote, `\`, `$` or end of a line
abbrev pub is_plain : Quote → ℕ → Bool
is_plain quote b = not (b == byte "\\") && not (b == byte "$") && not (b == quote_byte quote)
    && is_inner b

-- a byte that stands for itself, or for a control character, behind `\`
abbrev pub is_escaped : ℕ → Bool
is_escaped b = not (b == byte "x") && not (b == byte "u") && is_inner b

-- the words of the language that may follow `$`
abbrev pub may_follow_dollar : Word → Bool
may_follow_dollar w.Get = true
may_follow_dollar w.Set = true
may_follow_dollar w.This = true
may_follow_dollar other = false

-- a name that may follow `$`
abbrev pub IsShown : List ℕ → Type 0
IsShown name = IsRun is_name_start is_name_byte name
    × ((word : Word) → word_text word ≡ name → may_follow_dollar word ≡ true)

-- The element may stand in a string with this quote, before these bytes: a name is the longest there.
abbrev pub Fits : Quote → Element → List ℕ → Type 0
Fits quote (plain b) behind = is_plain quote b ≡ true
Fits quote (escaped b) behind = is_escaped b ≡ true
Fits quote (two a b) behind = Passes is_hex_digit (a ∷ b ∷ [])
Fits quote (four a b c d) behind = Passes is_hex_digit (a ∷ b ∷ c ∷ d ∷ [])
Fits quote (braced digits) behind = IsRun is_hex_digit is_hex_digit digits × (length digits ≤ 6)
    × (value_in 16 digits ≤ 0x10FFFF)
Fits quote (named name) behind = IsShown name × Stops is_name_byte behind

abbrev pub AllFit : Quote → List Element → Type 0
AllFit quote [] = Unit {0}
AllFit quote (element ∷ elements) = Fits quote element (elements_bytes elements)
    × AllFit quote elements

-- this byte, elements, and these bytes
abbrev pub IsString : Quote → ℕ → List ℕ → List ℕ → Type 0
IsString quote first last bytes = (elements : List Element)
    × (bytes ≡ first ∷ (elements_bytes elements ++ last)) × AllFit quote elements

-- what begins an interpolation: `${`
abbrev pub interpolation : List ℕ
interpolation = codes "${"

-- a byte of a raw string with this quote
abbrev pub in_raw : Quote → ℕ → Bool
in_raw quote b = not (b == quote_byte quote) && is_inner b

-- `r`, and bytes between two quotes
abbrev pub IsRaw : Quote → List ℕ → Type 0
IsRaw quote bytes = (inner : List ℕ)
    × (bytes ≡ byte "r" ∷ quote_byte quote ∷ (inner ++ quote_byte quote ∷ []))
    × Passes (in_raw quote) inner
