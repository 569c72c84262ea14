-- The program that loaded units make (ECMA-408, 18 Libraries and Scripts).
use Rattle.std.specs.Prelude.{◌≡◌, ℕ, List, flat_map}
use Rattle.scope_load.specs.State.{State}
use Rattle.scope_entry.specs.Kinds.{unit_kinds}
use Rattle.scope_entry.specs.Entries.{numbered, entries}
use Rattle.scope_entry.specs.Libraries.{AreLibraries}
use Rattle.dart_scope.specs.declared.program.Program.{Program}
use Rattle.dart_scope.specs.Program.{AreUnits, all_declared}

-- The program of loaded units, by a table of names and the number of the library of each unit: the units, the numbered
-- declarations, and the libraries.
pub record IsProgram (names : List (List ℕ)) (homes : List ℕ) (state : State) (program : Program) : Type 0 where
  pub units : AreUnits names homes state.units program.units.items
  pub numbered : program.numbered.items ≡ numbered (all_declared names homes state.units)
  pub libraries : AreLibraries names (entries names program.numbered.items (flat_map unit_kinds state.units)) state program.spaces
