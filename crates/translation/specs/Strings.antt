-- What strings and integers stand for (ECMA-408, 16.3 Numbers, 16.5 Strings and 16.5.1 String Interpolation).
use Rattle.std.specs.Prelude.{ℕ, ◌+◌, ◌-◌, ◌*◌, ◌/◌, ◌%◌, ◌==◌, nat_lt, List, [], ◌∷◌, ◌++◌, length, take, drop, fold, Bool, true, false, ◌&&◌, not}
use Rattle.std.specs.Prelude.{Option, None, Some, if◌then◌else◌}
use Rattle.std.specs.Str.{byte}
use Rattle.dart_tree.specs.declared.expression.PieceKind.{PieceKind}
use Rattle.dart_tree.specs.declared.expression.PieceKind.TheVariants as k
use Rattle.dart_pieces.specs.Bytes.{is_word_byte}
use Rattle.dart_pieces.specs.Numbers.{digit}
use Rattle.dart_tree.specs.Tree as t
use Rattle.translation.specs.Surroundings.{Text}

-- ---- the elements of a piece

-- what a piece is made of: units of UTF-16 that stand for themselves, and names behind `$`
pub data Part : Type 0 where
  units : Text → Part
  shown : Text → Part

-- what was begun: a text, an escape, an escape with so many digits left and a value, one in braces, a name, or a character of
-- UTF-8 with so many bytes left and a value
pub data Begun : Type 0 where
  plain : Begun
  backslash : Begun
  unicode : Begun
  digits : ℕ → ℕ → Begun
  braces : ℕ → Begun
  name : Text → Begun
  character : ℕ → ℕ → Begun

pub record Reading : Type 0 where
  pub is_raw : Bool
  pub begun : Begun
  pub units : Text
  pub parts : List Part

-- the units of a character
abbrev pub units_of : ℕ → Text
units_of code = if nat_lt code 0x10000 then code ∷ []
    else (0xD800 + (code - 0x10000) / 0x400) ∷ (0xDC00 + (code - 0x10000) % 0x400) ∷ []

abbrev pub with_code : Reading → ℕ → Reading
with_code r code = record r { begun = plain; units = r.units ++ units_of code }

abbrev pub beginning : Reading → Begun → Reading
beginning r begun = record r { begun = begun }

-- a control character behind `\`, or a character that stands for itself
abbrev pub control : ℕ → ℕ
control b = if b == byte "n" then 10 else if b == byte "r" then 13 else if b == byte "f" then 12
    else if b == byte "b" then 8 else if b == byte "t" then 9 else if b == byte "v" then 11 else b

-- the first byte of a character
abbrev pub with_byte : Reading → ℕ → Reading
with_byte r b = if nat_lt b 0x80 then with_code r b else if nat_lt b 0xE0 then beginning r (character 1 (b - 0xC0))
    else if nat_lt b 0xF0 then beginning r (character 2 (b - 0xE0)) else beginning r (character 3 (b - 0xF0))

abbrev pub in_text : Reading → ℕ → Reading
in_text r b = if r.is_raw then with_byte r b else if b == byte "\\" then beginning r backslash
    else if b == byte "$" then record r { begun = name []; units = []; parts = r.parts ++ units r.units ∷ [] } else with_byte r b

abbrev pub behind_backslash : Reading → ℕ → Reading
behind_backslash r b = if b == byte "x" then beginning r (digits 2 0) else if b == byte "u" then beginning r unicode
    else with_byte r (control b)

abbrev pub with_digit : Reading → ℕ → ℕ → Reading
with_digit r left value = if nat_lt 1 left then beginning r (digits (left - 1) value) else with_code r value

abbrev pub with_continuation : Reading → ℕ → ℕ → Reading
with_continuation r left value = if nat_lt 1 left then beginning r (character (left - 1) value) else with_code r value

-- A name ends before the first byte that goes on with none; `$` does not.
abbrev pub named_so_far : Reading → Text → Reading
named_so_far r text = record r { begun = plain; parts = r.parts ++ shown text ∷ [] }

abbrev pub in_name : Reading → Text → ℕ → Reading
in_name r text b = if is_word_byte b && not (b == byte "$") then beginning r (name (text ++ b ∷ []))
    else in_text (named_so_far r text) b

abbrev pub step_in : Reading → Begun → ℕ → Reading
step_in r plain b = in_text r b
step_in r backslash b = behind_backslash r b
step_in r unicode b = if b == byte "{" then beginning r (braces 0) else with_digit r 4 (digit b)
step_in r (digits left value) b = with_digit r left (value * 16 + digit b)
step_in r (braces value) b = if b == byte "}" then with_code r value else beginning r (braces (value * 16 + digit b))
step_in r (name text) b = in_name r text b
step_in r (character left value) b = with_continuation r left (value * 0x40 + (b - 0x80))

abbrev pub step : Reading → ℕ → Reading
step r b = step_in r r.begun b

abbrev pub ended : Reading → Begun → List Part
ended r (name text) = r.parts ++ shown text ∷ []
ended r other = r.parts ++ units r.units ∷ []

abbrev pub finished : Reading → List Part
finished r = ended r r.begun

abbrev pub parts_in : Bool → Text → List Part
parts_in is_raw inner = finished (fold step (record { is_raw = is_raw; begun = plain; units = []; parts = [] }) inner)

-- what stands before the last bytes
abbrev pub without_last : ℕ → Text → Text
without_last n bytes = take (length bytes - n) bytes

abbrev pub parts_of_whole : Text → List Part
parts_of_whole [] = []
parts_of_whole (first ∷ rest) =
    if first == byte "r" then parts_in true (without_last 1 (drop 1 rest)) else parts_in false (without_last 1 rest)

-- what a piece is made of between its quotes, its `}` and its `${`
abbrev pub parts_of : PieceKind → Text → List Part
parts_of k.Whole bytes = parts_of_whole bytes
parts_of (k.Head quote) bytes = parts_in false (without_last 2 (drop 1 bytes))
parts_of k.Middle bytes = parts_in false (without_last 2 (drop 1 bytes))
parts_of k.Tail bytes = parts_in false (without_last 1 (drop 1 bytes))

-- ---- strings without interpolation

abbrev pub also : Option Text → Option Text → Option Text
also None after = None
also (Some before) None = None
also (Some before) (Some after) = Some (before ++ after)

abbrev pub units_alone : List Part → Option Text
units_alone [] = Some []
units_alone (units text ∷ parts) = also (Some text) (units_alone parts)
units_alone (shown text ∷ parts) = None

abbrev pub no_value : t.Value → Option Text
no_value t.omitted = Some []
no_value (t.given operator value) = None

-- the units of adjacent pieces that hold no name and no expression
abbrev pub constant_units : t.Pieces → Option Text
constant_units t.no_pieces = Some []
constant_units (t.piece kind place text value rest) =
    also (units_alone (parts_of kind text)) (also (no_value value) (constant_units rest))
