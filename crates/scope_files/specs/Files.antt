-- What the name of a unit gives where these are the files.
use Rattle.std.specs.Prelude.{◌≡◌, ℕ, List, ◌∷◌, Option, None, Some, IfSome, Result, Ok, Err}
use Rattle.std.specs.Prelude.{◌⊎◌, IsUtf8}
use Rattle.std.specs.Option.{option_map}
use Rattle.dart_edge.specs.Files.{Files, file_of}
use Rattle.dart_prelude.specs.declared.texts.TheConstants.{CORE, ISOLATE}
use Rattle.scope_files.specs.Texts.{TextGives}
use Rattle.scope_files.specs.declared.check.Checked.{Checked}
use Rattle.scope_files.specs.declared.check.Checked.TheVariants.{Sound, Against}
use Rattle.scope_load.specs.declared.reason.LoadFault.{LoadFault}
use Rattle.scope_load.specs.declared.units.UnitName.{UnitName}
use Rattle.scope_load.specs.declared.units.UnitName.TheVariants as n
use Rattle.scope_load.specs.Found.{FoundIs, absent, refused, read}
use Rattle.scope_load.specs.Load.{Loads, Stops}
use Rattle.scope_load.specs.State.{State, state_of}
use Rattle.scope_reason.specs.Reason.{program_reason}

-- what the bytes of a file give, or its absence
abbrev pub ContentGives : ℕ → Option (List ℕ) → FoundIs → Type 0
ContentGives number None gives = gives ≡ absent
ContentGives number (Some text) gives = TextGives number text gives

-- A name that isn't UTF-8 is no file's; else what the files have under the name decides, if they are told.
abbrev pub GivesFile : Option Files → ℕ → List ℕ → FoundIs → Type 0
GivesFile told number name gives =
    ((IsUtf8 name → ⊥) × (gives ≡ absent)) ⊎ (IsUtf8 name × IfSome told (λ files. ContentGives number (file_of files name) gives))

-- The libraries of the language have their texts.
abbrev pub NameGives : Option Files → ℕ → UnitName → FoundIs → Type 0
NameGives told number (n.File name) gives = GivesFile told number name gives
NameGives told number n.Core gives = TextGives number CORE.now gives
NameGives told number n.Isolate gives = TextGives number ISOLATE.now gives

-- the same where the file with this name has this text
abbrev pub GivesText : ℕ → List ℕ → List ℕ → FoundIs → Type 0
GivesText number name text gives = ((IsUtf8 name → ⊥) × (gives ≡ absent)) ⊎ (IsUtf8 name × TextGives number text gives)

-- the files, if they are told, where the file with this name has this text
abbrev pub known : List ℕ → List ℕ → Option Files → Option Files
known name text told = option_map (λ files. (name, text) ∷ files) told

-- What is found of the units of a state: these, with nothing against them, or the first reason against them as a whole.
abbrev pub Found : State → Checked → Type 0
Found state (Sound loaded) = (state_of loaded ≡ state) × (program_reason state ≡ None)
Found state (Against reason) = program_reason state ≡ Some reason

-- What an answer says of the program with this root: all its units are loaded, and this is found of them; or they aren't loaded
-- for this reason.
abbrev pub Checks : Option Files → List ℕ → Result Checked LoadFault → Type 0
Checks told root (Ok checked) = (state : State) × Loads (NameGives told) root state × Found state checked
Checks told root (Err fault) = Stops (NameGives told) root fault
