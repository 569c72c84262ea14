-- Classes of bytes, and runs of them.
use Rattle.std.specs.Prelude.{◌≡◌, ◌==◌, ℕ, nat_le, List, [], ◌∷◌, Bool, true, false, ◌&&◌, ◌||◌, not}
use Rattle.std.specs.Str.{byte}

-- space, tab, CR and LF
abbrev pub is_blank : ℕ → Bool
is_blank b = (b == byte " ") || (b == byte "\t") || (b == byte "\r") || (b == byte "\n")

abbrev pub is_digit : ℕ → Bool
is_digit b = nat_le (byte "0") b && nat_le b (byte "9")

-- a letter of ASCII, `_` or `$`
abbrev pub is_letter : ℕ → Bool
is_letter b = (nat_le (byte "a") b && nat_le b (byte "z"))
    || (nat_le (byte "A") b && nat_le b (byte "Z")) || (b == byte "_") || (b == byte "$")

abbrev pub is_word_byte : ℕ → Bool
is_word_byte b = is_letter b || is_digit b

abbrev pub is_hex_digit : ℕ → Bool
is_hex_digit b = is_digit b || (nat_le (byte "a") b && nat_le b (byte "f"))
    || (nat_le (byte "A") b && nat_le b (byte "F"))

-- `x` or `X`
abbrev pub is_x : ℕ → Bool
is_x b = (b == byte "x") || (b == byte "X")

-- `e` or `E`
abbrev pub is_exponent : ℕ → Bool
is_exponent b = (b == byte "e") || (b == byte "E")

-- `+` or `-`
abbrev pub is_plus_or_minus : ℕ → Bool
is_plus_or_minus b = (b == byte "+") || (b == byte "-")

-- LF
abbrev pub is_line_end : ℕ → Bool
is_line_end b = b == byte "\n"

abbrev pub in_line : ℕ → Bool
in_line b = not (is_line_end b)

-- neither LF nor CR
abbrev pub is_inner : ℕ → Bool
is_inner b = not (b == byte "\n") && not (b == byte "\r")

-- what a name after `$` is made of
abbrev pub is_name_byte : ℕ → Bool
is_name_byte b = is_word_byte b && not (b == byte "$")

abbrev pub is_name_start : ℕ → Bool
is_name_start b = is_letter b && not (b == byte "$")

-- each byte passes the test
abbrev pub Passes : (ℕ → Bool) → List ℕ → Type 0
Passes p [] = Unit {0}
Passes p (b ∷ bytes) = (p b ≡ true) × Passes p bytes

-- the first byte, if there is one, does not pass the test
abbrev pub Stops : (ℕ → Bool) → List ℕ → Type 0
Stops p [] = Unit {0}
Stops p (b ∷ bytes) = p b ≡ false

-- a byte of the first class, and then bytes of the second
abbrev pub IsRun : (ℕ → Bool) → (ℕ → Bool) → List ℕ → Type 0
IsRun first more [] = ⊥
IsRun first more (b ∷ bytes) = (first b ≡ true) × Passes more bytes
