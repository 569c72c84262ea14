-- The text that a string without interpolation stands for, read byte by byte (ECMA-408, 16.5 Strings).
use Rattle.std.specs.Prelude.{ℕ, ◌+◌, ◌-◌, ◌*◌, ◌==◌, nat_lt, List, [], ◌∷◌, length, take, fold, Bool, true, false, Option, None, Some, if◌then◌else◌}
use Rattle.std.specs.Str.{byte}
use Rattle.dart_pieces.specs.Numbers.{digit}
use Rattle.scope_mention.specs.declared.text.Mode.{Mode}
use Rattle.scope_mention.specs.declared.text.Mode.TheVariants as m
use Rattle.scope_mention.specs.declared.text.Reader.{Reader}
use Rattle.scope_mention.specs.declared.written.Written.{Written}
use Rattle.scope_mention.specs.Written.{settled, with_byte, with_code}

-- the byte that stands for itself, or for a control character, behind `\`
abbrev pub control : ℕ → ℕ
control b = if b == byte "n" then 10 else if b == byte "r" then 13 else if b == byte "f" then 12
    else if b == byte "b" then 8 else if b == byte "t" then 9 else if b == byte "v" then 11 else b

-- the value with one more hexadecimal digit, unless it is above every character already
abbrev pub next_value : ℕ → ℕ → Option ℕ
next_value value b = if nat_lt 0x10FFFF value then None else Some (value * 16 + digit b)

abbrev pub at : Mode → Written → Reader
at mode written = record { mode = mode; written = written }

abbrev pub behind_backslash : Written → ℕ → Reader
behind_backslash w b = if b == byte "x" then at (m.Digits 2 0) w else if b == byte "u" then at m.Unicode w
    else at m.Text (with_byte w (control b))

-- after a digit of an escape, with so many digits left before it
abbrev pub with_digit : Written → ℕ → Option ℕ → Reader
with_digit w left None = at m.Failed w
with_digit w left (Some value) = if nat_lt 1 left then at (m.Digits (left - 1) value) w else at m.Text (with_code w value)

abbrev pub braces_on : Written → Option ℕ → Reader
braces_on w None = at m.Failed w
braces_on w (Some value) = at (m.Braces value) w

abbrev pub in_braces : Written → ℕ → ℕ → Reader
in_braces w value b = if b == byte "}" then at m.Text (with_code w value) else braces_on w (next_value value b)

abbrev pub in_text : Written → ℕ → Reader
in_text w b = if b == byte "\\" then at m.Backslash w else if b == byte "$" then at m.Failed w else at m.Text (with_byte w b)

abbrev pub behind_u : Written → ℕ → Reader
behind_u w b = if b == byte "{" then at (m.Braces 0) w else with_digit w 4 (next_value 0 b)

abbrev pub step_in : Mode → Written → ℕ → Reader
step_in m.Text w b = in_text w b
step_in m.Backslash w b = behind_backslash w b
step_in m.Unicode w b = behind_u w b
step_in (m.Digits left value) w b = with_digit w left (next_value value b)
step_in (m.Braces value) w b = in_braces w value b
step_in m.Failed w b = at m.Failed w

-- A byte is read.
abbrev pub step : Reader → ℕ → Reader
step reader b = step_in reader.mode reader.written b

-- nothing yet
abbrev pub unwritten : Written
unwritten = record { bytes = []; high = None }

-- the text that was read, where the string ends between two elements
abbrev pub text_in : Mode → Written → Option (List ℕ)
text_in m.Text w = Some (settled w).bytes
text_in m.Backslash w = None
text_in m.Unicode w = None
text_in (m.Digits left value) w = None
text_in (m.Braces value) w = None
text_in m.Failed w = None

abbrev pub text_read : Reader → Option (List ℕ)
text_read reader = text_in reader.mode reader.written

-- the text of bytes in which escapes are read
abbrev pub cooked : List ℕ → Option (List ℕ)
cooked inner = text_read (fold step (at m.Text unwritten) inner)

-- what stands before the last byte
abbrev pub but_last : List ℕ → List ℕ
but_last bytes = take (length bytes - 1) bytes

-- the text of a string as it is written, with its quotes, and with `r` before them if it is raw
abbrev pub literal_text : List ℕ → Option (List ℕ)
literal_text [] = None
literal_text (first ∷ []) = None
literal_text (first ∷ second ∷ []) = cooked []
literal_text (first ∷ second ∷ third ∷ more) =
    if first == byte "r" then Some (but_last (third ∷ more)) else cooked (but_last (second ∷ third ∷ more))
