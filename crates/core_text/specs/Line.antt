-- What lines are made of: blanks in front, numbers, places.
use Rattle.std.specs.Prelude.{◌≡◌, ℕ, ◌+◌, ◌-◌, ◌^◌, List, [], ◌∷◌, ◌++◌, nat_eq, if◌then◌else◌, codes, replicate, min, Result, OnOk, unwrap_or, slice_get}
use Rattle.std.specs.Fmt.{decimal}
use Rattle.std.specs.List.{flat_map}
use Rattle.std.specs.declared.alloc.AllocError.{AllocError}
use Rattle.dart_base.specs.declared.place.Place.{Place}
use Rattle.core_program.specs.declared.program.CoreProgram.{CoreProgram}

-- Where memory was there for it, a text stands behind what there was before.
pub record Adds (r : Result (Unit {0}) AllocError) (old new text : List ℕ) : Type 0 where
  pub on_ok : OnOk r (new ≡ old ++ text)

-- a level deeper; no line has more than 255 blanks in front
abbrev pub deeper : ℕ → ℕ
deeper blanks = min (blanks + 2) (2 ^ 8 - 1)

abbrev pub margin : ℕ → List ℕ
margin blanks = replicate blanks 32

-- a number behind a blank
abbrev pub after_blank : ℕ → List ℕ
after_blank n = codes " " ++ decimal n

-- each behind a blank
abbrev pub numbers : List ℕ → List ℕ
numbers ns = flat_map after_blank ns

-- a text behind a blank, and nothing where there is no text
abbrev pub word : List ℕ → List ℕ
word [] = []
word (first ∷ rest) = codes " " ++ first ∷ rest

-- the name of a unit's file; none for a number that is no unit
abbrev pub file_name : CoreProgram → ℕ → List ℕ
file_name x unit = unwrap_or (slice_get x.units.items unit) []

-- what stands in front of a place that isn't in the root
abbrev pub file : CoreProgram → ℕ → List ℕ
file x unit = if nat_eq unit 0 then [] else file_name x unit ++ codes ":"

-- LINE:COLUMN in the root, FILE:LINE:COLUMN elsewhere
abbrev pub place : CoreProgram → Place → List ℕ
place x at = file x at.unit ++ (decimal at.line ++ (codes ":" ++ decimal at.column))
