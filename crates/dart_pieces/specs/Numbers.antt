-- Integers and doubles (ECMA-408, 16.3 Numbers).
use Rattle.std.specs.Prelude.{◌≡◌, ℕ, ◌+◌, ◌-◌, ◌*◌, nat_lt, List, [], ◌∷◌, ◌++◌, fold, true, ◌⊎◌, if◌then◌else◌}
use Rattle.std.specs.Str.{byte}
use Rattle.dart_pieces.specs.Bytes.{is_digit, is_hex_digit, is_x, is_exponent, is_plus_or_minus, IsRun}

-- digits, or `0x` or `0X` and hexadecimal digits
abbrev pub IsInteger : List ℕ → Type 0
IsInteger bytes = IsRun is_digit is_digit bytes
    ⊎ ((x : ℕ) × (digits : List ℕ) × (bytes ≡ byte "0" ∷ x ∷ digits) × (is_x x ≡ true)
    × IsRun is_hex_digit is_hex_digit digits)

-- the value of a digit
abbrev pub digit : ℕ → ℕ
digit b = if nat_lt b (byte ":") then b - byte "0"
    else if nat_lt b (byte "[") then b + 10 - byte "A" else b + 10 - byte "a"

-- the value of the digits behind a value
abbrev pub value_on : ℕ → ℕ → List ℕ → ℕ
value_on base value digits = fold (λ v d. v * base + digit d) value digits

abbrev pub value_in : ℕ → List ℕ → ℕ
value_in base digits = value_on base 0 digits

abbrev pub integer_value : List ℕ → ℕ
integer_value [] = 0
integer_value (a ∷ []) = value_in 10 (a ∷ [])
integer_value (a ∷ b ∷ more) = if is_x b then value_in 16 more else value_in 10 (a ∷ b ∷ more)

-- what makes the digits before it a double: `.` and a digit, or an exponent up to its first digit
abbrev pub MakesDouble : List ℕ → Type 0
MakesDouble tail = ((d : ℕ) × (tail ≡ byte "." ∷ d ∷ []) × (is_digit d ≡ true))
    ⊎ (((e : ℕ) × (d : ℕ) × (tail ≡ e ∷ d ∷ []) × (is_exponent e ≡ true) × (is_digit d ≡ true))
    ⊎ ((e : ℕ) × (sign : ℕ) × (d : ℕ) × (tail ≡ e ∷ sign ∷ d ∷ []) × (is_exponent e ≡ true)
    × (is_plus_or_minus sign ≡ true) × (is_digit d ≡ true)))

-- a prefix of a double, as far as it shows that it is one
abbrev pub IsDouble : List ℕ → Type 0
IsDouble bytes = ((d : ℕ) × (bytes ≡ byte "." ∷ d ∷ []) × (is_digit d ≡ true))
    ⊎ ((digits : List ℕ) × (tail : List ℕ) × (bytes ≡ digits ++ tail)
    × IsRun is_digit is_digit digits × MakesDouble tail)
