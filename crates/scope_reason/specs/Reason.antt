-- The first reason against a program whose units are all loaded.
use Rattle.std.specs.Prelude.{ℕ, List, [], ◌==◌, Bool, true, false, Option, None, Some, position, slice_get, take, unwrap_or}
use Rattle.std.specs.Str.{byte}
use Rattle.dart_base.specs.declared.place.Place.{Place}
use Rattle.scope_declared.specs.declared.declaration.Declared.{Declared}
use Rattle.scope_library.specs.Library.{homes_of}
use Rattle.scope_load.specs.State.{State}
use Rattle.scope_load.specs.declared.units.UnitName.{UnitName}
use Rattle.scope_load.specs.declared.units.UnitName.TheVariants.{Core}
use Rattle.scope_name.specs.Names.{names_of}
use Rattle.scope_table.specs.Duplicate.{duplicate_of}
use Rattle.scope_reason.specs.declared.reason.ProgramReason.{ProgramReason}
use Rattle.scope_reason.specs.declared.reason.ProgramReason.TheVariants.{Duplicate, NoMain}
use Rattle.scope_reason.specs.Declarations.{all_declared}
use Rattle.scope_reason.specs.Main.{has_main}

-- the unit that a place is in; each place of a program is in a unit of it
abbrev pub unit_at : List UnitName → Place → UnitName
unit_at names place = unwrap_or (slice_get names place.unit) Core

abbrev pub text_of : List (List ℕ) → ℕ → List ℕ
text_of names number = unwrap_or (slice_get names number) []

abbrev pub up_to : List ℕ → Option ℕ → List ℕ
up_to text None = text
up_to text (Some at) = take at text

-- a name as it is shown: of a private one without the `@` and the number of its library (6.2 Privacy)
abbrev pub shown : List ℕ → List ℕ
shown text = up_to text (position (λ b. b == byte "@") text)

abbrev pub duplicate_reason : List UnitName → List (List ℕ) → Declared → ProgramReason
duplicate_reason units names d = Duplicate (unit_at units d.place) d.place (shown (text_of names d.name.0))

abbrev pub main_reason : Bool → Option ProgramReason
main_reason true = None
main_reason false = Some NoMain

-- a name that is declared twice in a scope comes first, whatever unit it is in
abbrev pub reason_for : List UnitName → List (List ℕ) → Option Declared → Bool → Option ProgramReason
reason_for units names (Some d) main = Some (duplicate_reason units names d)
reason_for units names None main = main_reason main

abbrev pub reason_with : State → List ℕ → List (List ℕ) → Option ProgramReason
reason_with state homes names =
    reason_for state.names names (duplicate_of (all_declared names homes state.units)) (has_main homes state.units)

abbrev pub reason_in : State → List ℕ → Option ProgramReason
reason_in state homes = reason_with state homes (names_of homes state.units)

-- the first reason against the units of this state as a whole
unfoldable pub program_reason : State → Option ProgramReason
program_reason state = reason_in state (homes_of state)
