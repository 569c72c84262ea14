-- What the names of a whole program mean (ECMA-408, 16.33 Identifier Reference, 18 Libraries and Scripts).
use Rattle.std.specs.Prelude.{◌≡◌, ℕ, List, flat_map, length, slice_get, slice_index_or, codes, Option, Some, find}
use Rattle.std.specs.Option.{option_map}
use Rattle.scope_declared.specs.Number.{number_in}
use Rattle.scope_declared.specs.declared.declaration.Declared.{Declared}
use Rattle.scope_load.specs.State.{State}
use Rattle.scope_library.specs.Library.{homes_of}
use Rattle.scope_library.specs.declared.library.TheConstants.{CORE_UNIT}
use Rattle.scope_name.specs.Names.{all_names, kept_names}
use Rattle.scope_entry.specs.Kinds.{unit_kinds}
use Rattle.scope_entry.specs.Entries.{numbered, entries}
use Rattle.scope_entry.specs.Libraries.{AreLibraries}
use Rattle.scope_space.specs.declared.library.Library.{Library}
use Rattle.scope_space.specs.Namespace.{own}
use Rattle.scope_space.specs.Entry.{can_start}
use Rattle.scope_outer.specs.Outside.{Scopes}
use Rattle.scope_dictionary.specs.Names.{AreNames}
use Rattle.dart_scope.specs.Program.{all_declared}
use Rattle.translation.specs.Surroundings.{Text, Names}
use Rattle.scope_program.specs.Classes.{ClassScope, class_scopes}

-- The names that the units have without their annotations, which are all that can be declared and meant, and the table of names, which has
-- behind them what only annotations spell; the library of each unit, the declarations that have numbers, what names mean in each library, the
-- classes as they are declared, the library of `dart:core`, and the function by which the program starts.
pub record Scoping : Type 0 where
  pub kept : List Text
  pub texts : List Text
  pub homes : List ℕ
  pub numbered : List Declared
  pub libraries : List Names
  pub classes : List ClassScope
  pub core : ℕ
  pub main : Option ℕ

-- the names of each library are those that its namespace gives
pub record AreScopes (texts : List Text) (scopes : Scopes) (all : List Names) : Type 0 where
  pub count : length all ≡ length scopes.libraries
  pub each : (library : ℕ) (names : Names) → slice_get all library ≡ Some names → AreNames texts scopes library names

-- What the names of a loaded program mean.
pub record IsScoping (state : State) (s : Scoping) : Type 0 where
  pub kept : s.kept ≡ kept_names (homes_of state) state.units
  pub texts : s.texts ≡ all_names (homes_of state) state.units
  pub homes : s.homes ≡ homes_of state
  pub numbered : s.numbered ≡ numbered (all_declared s.kept (homes_of state) state.units)
  pub spaces : List Library
  pub are_libraries : AreLibraries s.kept (entries s.kept s.numbered (flat_map unit_kinds state.units)) state spaces
  pub names : AreScopes s.kept (record { libraries = spaces; numbered = s.numbered }) s.libraries
  pub classes : s.classes ≡ class_scopes s.numbered (homes_of state) state.units
  pub core : s.core ≡ slice_index_or (homes_of state) CORE_UNIT 0
  pub main : s.main ≡ option_map (λ d. d.number) (find (λ d. can_start d.kind) (own spaces 0 (number_in s.kept (codes "main"))))
