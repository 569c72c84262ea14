-- Constants.
use Rattle.std.specs.Prelude.{ℕ, ◌+◌, ◌/◌, ◌%◌, ◌-◌, List, [], ◌∷◌, ◌++◌, ◌&&◌, not, Bool, true, false, nat_lt, nat_le, nat_eq, if◌then◌else◌, codes, unwrap_or, slice_get}
use Rattle.std.specs.Fmt.{decimal, signed_decimal}
use Rattle.std.specs.List.{flat_map}
use Rattle.dart_ir.specs.Integer.{integer_of}
use Rattle.dart_ir.specs.declared.value.Value.{Value}
use Rattle.dart_ir.specs.declared.value.Value.TheVariants as v
use Rattle.core_program.specs.declared.program.CoreProgram.{CoreProgram}
use Rattle.core_text.specs.Name.{function}

-- the digit of a number below 16 in base 16
abbrev pub digit : ℕ → ℕ
digit n = if nat_lt n 10 then 48 + n else 97 + (n - 10)

-- Written as they are: the characters of ASCII that are printed, but for the quote and the backslash.
abbrev pub is_plain : ℕ → Bool
is_plain unit = nat_le 32 unit && nat_lt unit 127 && not (nat_eq unit 39) && not (nat_eq unit 92)

abbrev pub escaped : ℕ → List ℕ
escaped unit = codes "\\u" ++ (digit (unit / 4096) ∷ digit (unit / 256 % 16) ∷ digit (unit / 16 % 16) ∷ digit (unit % 16) ∷ [])

abbrev pub unit_text : ℕ → List ℕ
unit_text unit = if is_plain unit then unit ∷ [] else escaped unit

abbrev pub units : List ℕ → List ℕ
units us = flat_map unit_text us

-- a literal in quotes
abbrev pub literal : CoreProgram → ℕ → List ℕ
literal x n = codes "'" ++ (units (unwrap_or (slice_get x.literals.items n) []) ++ codes "'")

abbrev pub constant : CoreProgram → Value → List ℕ
constant x v.Null = codes "null"
constant x (v.Bool true) = codes "true"
constant x (v.Bool false) = codes "false"
constant x (v.Int high low) = signed_decimal (integer_of high low)
constant x (v.Literal n) = literal x n
constant x (v.Code f) = codes "function " ++ function x f.0
constant x (v.At object) = codes "object " ++ decimal object.0
