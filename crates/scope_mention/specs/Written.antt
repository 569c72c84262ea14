-- A text in UTF-8 that is written from bytes, and from the characters and units that escapes stand for: a string is a list of units of UTF-16 (ECMA-408, 16.5 Strings), and written out a unit
-- without its partner is U+FFFD.
use Rattle.std.specs.Prelude.{ℕ, ◌+◌, ◌-◌, ◌*◌, ◌%◌, nat_le, nat_lt, List, [], ◌∷◌, ◌++◌, Bool, ◌&&◌, ◌||◌, Option, None, Some, if◌then◌else◌, encode_utf8}
use Rattle.scope_mention.specs.declared.written.Written.{Written}

-- the first and the second half of a surrogate pair
abbrev pub is_high : ℕ → Bool
is_high code = nat_le 0xD800 code && nat_le code 0xDBFF

abbrev pub is_low : ℕ → Bool
is_low code = nat_le 0xDC00 code && nat_le code 0xDFFF

-- the character that two halves make
abbrev pub paired : ℕ → ℕ → ℕ
paired high low = 0x10000 + ((high - 0xD800) % 0x400) * 0x400 + (low - 0xDC00) % 0x400

abbrev pub is_character : ℕ → Bool
is_character code = nat_lt code 0xD800 || (nat_lt 0xDFFF code && nat_lt code 0x110000)

-- the character of the code, or U+FFFD where it is none
abbrev pub character_of : ℕ → ℕ
character_of code = if is_character code then code else 0xFFFD

-- that character in UTF-8
abbrev pub character : ℕ → List ℕ
character code = encode_utf8 (character_of code)

-- a half whose other half didn't come is written
abbrev pub settle_half : List ℕ → Option ℕ → List ℕ
settle_half bytes None = bytes
settle_half bytes (Some half) = bytes ++ character half

abbrev pub settled : Written → Written
settled w = record { bytes = settle_half w.bytes w.high; high = None }

abbrev pub with_byte : Written → ℕ → Written
with_byte w byte = record { bytes = settle_half w.bytes w.high ++ byte ∷ []; high = None }

-- a character or half of one that pairs with nothing before it
abbrev pub with_single : Written → ℕ → Written
with_single w code = if is_high code then record { bytes = settle_half w.bytes w.high; high = Some code }
    else record { bytes = settle_half w.bytes w.high ++ character code; high = None }

-- the second half of a pair, where the first half may have come
abbrev pub with_low : Written → Option ℕ → ℕ → Written
with_low w None code = with_single w code
with_low w (Some high) code = record { bytes = w.bytes ++ character (paired high code); high = None }

abbrev pub with_code : Written → ℕ → Written
with_code w code = if is_low code then with_low w w.high code else with_single w code
