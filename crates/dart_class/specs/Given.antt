-- What the classes of a loaded program are read with, and its units (ECMA-408, 10 Classes, 18 Libraries and Scripts).
use Rattle.std.specs.Prelude.{ℕ, ◌+◌, List, [], ◌∷◌, slice_get, Bool, true, false, Option, Some}
use Rattle.dart_tree.specs.Unit.{UnitTree}
use Rattle.scope_load.specs.State.{State}
use Rattle.scope_load.specs.declared.units.UnitName.{UnitName}
use Rattle.scope_load.specs.declared.units.UnitName.TheVariants as n
use Rattle.scope_library.specs.Library.{homes_of}
use Rattle.class_source.specs.Source.{SourceUnit, Given}
use Rattle.lower_leaf.specs.Around.{Around}
use Rattle.lower_annotation.specs.Annotated.{annotated}
use Rattle.scope_program.specs.Classes.{number_at, position_of}
use Rattle.scope_program.specs.Program.{Scoping}
use Rattle.scope_program.specs.Around.{members_around, names_in_header}

-- what the members of classes are read in, with what the program's aliases stand for
abbrev pub signed_around : State → Scoping → Around
signed_around state s = annotated (position_of s.numbered) (members_around s) s.homes state.units

-- What classes are read with: what names mean in headers and among members, what aliases stand for in signatures, and the numbers of
-- declarations.
abbrev pub class_given : State → Scoping → Given
class_given state s = record {
  tables = (signed_around state s).tables;
  header_names = λ n. names_in_header s (slice_get s.classes n);
  number = number_at s.numbered;
}

-- a file is the user's
abbrev pub is_user : Option UnitName → Bool
is_user (Some (n.File name)) = true
is_user other = false

abbrev pub is_core : Option UnitName → Bool
is_core (Some n.Core) = true
is_core other = false

abbrev pub source_unit : ℕ → Option UnitName → UnitTree → SourceUnit
source_unit library name unit = record {
  library = library;
  is_user = is_user name;
  is_core = is_core name;
  declarations = unit.declarations;
}

-- units from a number on, where each belongs to the library of the number beside it
abbrev pub source_units_from : List UnitName → ℕ → List ℕ → List UnitTree → List SourceUnit
source_units_from names at (library ∷ homes) (unit ∷ units) =
    source_unit library (slice_get names at) unit ∷ source_units_from names (at + 1) homes units
source_units_from names at _ _ = []

-- the units of a loaded program
abbrev pub source_units : State → List SourceUnit
source_units state = source_units_from state.names 0 (homes_of state) state.units
