-- What the names of a loaded program mean under tables of names that may have more than its units spell.
use Rattle.std.specs.Prelude.{◌≡◌, List, flat_map, find, slice_index_or, codes}
use Rattle.std.specs.Option.{option_map}
use Rattle.scope_declared.specs.Number.{number_in}
use Rattle.scope_load.specs.State.{State}
use Rattle.scope_library.specs.Library.{homes_of}
use Rattle.scope_library.specs.declared.library.TheConstants.{CORE_UNIT}
use Rattle.scope_entry.specs.Kinds.{unit_kinds}
use Rattle.scope_entry.specs.Entries.{numbered, entries}
use Rattle.scope_entry.specs.Libraries.{AreLibraries}
use Rattle.scope_space.specs.declared.library.Library.{Library}
use Rattle.scope_space.specs.Namespace.{own}
use Rattle.scope_space.specs.Entry.{can_start}
use Rattle.dart_scope.specs.Program.{all_declared}
use Rattle.translation.specs.Surroundings.{Text}
use Rattle.scope_program.specs.Classes.{class_scopes}
use Rattle.scope_program.specs.Program.{Scoping, AreScopes}

-- It is `IsScoping` of scope_program with these tables in place of those that the units spell: names mean what they do under the first, and
-- the second is the table of names.
pub record IsScopingUnder (table all : List Text) (state : State) (s : Scoping) : Type 0 where
  pub kept : s.kept ≡ table
  pub texts : s.texts ≡ all
  pub homes : s.homes ≡ homes_of state
  pub numbered : s.numbered ≡ numbered (all_declared table (homes_of state) state.units)
  pub spaces : List Library
  pub are_libraries : AreLibraries table (entries table s.numbered (flat_map unit_kinds state.units)) state spaces
  pub names : AreScopes table (record { libraries = spaces; numbered = s.numbered }) s.libraries
  pub classes : s.classes ≡ class_scopes s.numbered (homes_of state) state.units
  pub core : s.core ≡ slice_index_or (homes_of state) CORE_UNIT 0
  pub main : s.main ≡ option_map (λ d. d.number) (find (λ d. can_start d.kind) (own spaces 0 (number_in table (codes "main"))))
