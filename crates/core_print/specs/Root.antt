-- The text of the core of a program, from its root.
use Rattle.std.specs.Prelude.{◌≡◌, ◌⊎◌, ℕ, List, length, slice_get, Option, None, Some, Contains}
use Rattle.core_program.specs.declared.program.CoreProgram.{CoreProgram}
use Rattle.core_text.specs.declared.program.Choice.{Choice}
use Rattle.core_text.specs.declared.program.Choice.TheVariants as choice
use Rattle.core_text.specs.Program.{program_text}
use Rattle.dart_base.specs.declared.name.Name.{Name}
use Rattle.dart_edge.specs.Files.{Files, file_of}
use Rattle.dart_tool.specs.declared.program.FileRefusal.{FileRefusal}
use Rattle.dart_tool.specs.Program.{IsSound, ProgramRefused}
use Rattle.scope_load.specs.State.{State}
use Rattle.translation.specs.Surroundings.{Text}
use Rattle.core_print.specs.Core.{MakesCore}

-- the name of a text in a table of names; what has none there has the number behind the last, which nothing is called by
abbrev pub IsNameOf : List Text → List ℕ → Name → Type 0
IsNameOf texts text name = (slice_get texts name.0 ≡ Some text) ⊎ ((Contains texts text → ⊥) × (name.0 ≡ length texts))

-- which declarations are shown: those of the root, or those with the name that was asked for
abbrev pub IsChoiceOf : List Text → Option (List ℕ) → Choice → Type 0
IsChoiceOf texts None chosen = chosen ≡ choice.Root
IsChoiceOf texts (Some text) chosen = (name : Name) × IsNameOf texts text name × (chosen ≡ choice.Named name)

-- A loaded program has a core, and this is its text; or it has none.
abbrev pub LoadedShows : State → Option (List ℕ) → Option (List ℕ) → Type 0
LoadedShows state name (Some bytes) = (x : CoreProgram) × (chosen : Choice) × MakesCore state (Some x) × IsChoiceOf x.names name chosen × (bytes ≡ program_text x chosen)
LoadedShows state name None = MakesCore state None

-- All units of the program with this root are loaded, with nothing against them, and this is shown of it.
abbrev pub SoundShows : Files → List ℕ → Option (List ℕ) → Option (List ℕ) → Type 0
SoundShows files root name found = (state : State) × IsSound files root state × LoadedShows state name found

-- The text of the core of the program with this root; or none, where there is no such file, where there is a reason against its units, or
-- where it has no core.
abbrev pub FileShows : Files → List ℕ → Option (List ℕ) → Option (List ℕ) → Type 0
FileShows files root name (Some bytes) = SoundShows files root name (Some bytes)
FileShows files root name None = (file_of files root ≡ None) ⊎
    (((against : FileRefusal) × ProgramRefused files root against) ⊎ SoundShows files root name None)
