-- The libraries of a loaded program, as their namespaces are made from them (ECMA-408, 18 Libraries and Scripts).
use Rattle.std.specs.Prelude.{◌≡◌, ℕ, ◌==◌, List, filter, Bool, true, false, Option, None, Some, slice_get}
use Rattle.std.specs.List.{AllZip}
use Rattle.scope_declared.specs.Number.{number_of}
use Rattle.scope_load.specs.State.{State}
use Rattle.scope_load.specs.declared.units.UnitName.{UnitName}
use Rattle.scope_load.specs.declared.units.UnitName.TheVariants as n
use Rattle.scope_library.specs.Library.{LibraryIs, libraries_of, number_of as library_number}
use Rattle.scope_space.specs.declared.library.Library.{Library}
use Rattle.scope_entry.specs.declared.entry.Entry.{Entry}
use Rattle.scope_entry.specs.Entries.{declarations_of}
use Rattle.scope_entry.specs.Directives.{IsImport, IsExport}

abbrev pub is_dart_name : Option UnitName → Bool
is_dart_name None = false
is_dart_name (Some (n.File name)) = false
is_dart_name (Some n.Core) = true
is_dart_name (Some n.Isolate) = true

-- A library of a program, from the declarations of all libraries: those of each name are its own, in their order, and it
-- imports and exports what its directives say. Names are numbered as it names them.
pub record IsLibrary (names : List (List ℕ)) (entries : List Entry) (state : State) (of : LibraryIs) (library : Library) : Type 0 where
  pub dart : library.is_dart ≡ is_dart_name (slice_get state.names of.unit)
  pub declarations : (name : ℕ) → filter (λ d. d.name.0 == name) library.declarations
      ≡ filter (λ d. d.name.0 == name) (declarations_of entries (library_number state.units of.unit))
  pub imports : AllZip (IsImport (number_of names (library_number state.units of.unit)) (slice_get state.units of.unit)) of.imports library.imports.items
  pub exports : AllZip (IsExport (number_of names (library_number state.units of.unit)) (slice_get state.units of.unit)) of.exports library.exports.items

-- the libraries of a program, by number
abbrev pub AreLibraries : List (List ℕ) → List Entry → State → List Library → Type 0
AreLibraries names entries state libraries = AllZip (IsLibrary names entries state) (libraries_of state) libraries
