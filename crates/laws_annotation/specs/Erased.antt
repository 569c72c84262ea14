-- A loaded program whose units are each erased in place, and what its names then mean.
use Rattle.std.specs.Prelude.{ℕ, map, Option}
use Rattle.dart_erase.specs.UnitErased as erased
use Rattle.class_source.specs.Source as class_source
use Rattle.laws_translation.specs.Bare.{tables_without}
use Rattle.scope_load.specs.State.{State}
use Rattle.scope_program.specs.Classes.{ClassScope}
use Rattle.scope_program.specs.Program.{Scoping}
use Rattle.translation.specs.Surroundings.{Ty}
use Rattle.translation.specs.Types.{AliasType}

-- the units keep their names, their links and their weights
abbrev pub erased_state : State → State
erased_state state = record state { units = map erased.unit state.units }

-- a class as it is declared, with its members erased
abbrev pub erased_class : ClassScope → ClassScope
erased_class c = record c { members = map erased.member c.members }

-- What the names of the erased program mean: the same, but for the trees of the classes' members.
abbrev pub erased_scoping : Scoping → Scoping
erased_scoping s = record s { classes = map erased_class s.classes }

-- a unit whose classes are read, with its declarations erased
abbrev pub erased_source : class_source.SourceUnit → class_source.SourceUnit
erased_source x = record x { declarations = map erased.decl x.declarations }

-- what classes are read with, where aliases stand for these types, and annotations ask this of variables
abbrev pub signed : class_source.Given → AliasType → (ℕ → Option Ty) → class_source.Given
signed given aliases variables = record given { tables = record given.tables { alias_type = aliases; variable_type = variables } }

-- what classes are read with, but for that
abbrev pub unsigned : class_source.Given → class_source.Given
unsigned given = record given { tables = tables_without given.tables }
