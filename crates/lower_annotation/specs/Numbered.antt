-- The library and static variables of a program and its aliases, each by the number of its declaration (ECMA-408, 8 Variables, 10.8 Static
-- Variables, 19.3.1 Typedef).
use Rattle.std.specs.Prelude.{ℕ, List, [], ◌∷◌, ◌++◌, flat_map, map, Option, None, Some, if◌then◌else◌}
use Rattle.dart_base.specs.declared.place.Place.{Place}
use Rattle.dart_tree.specs.declared.identifier.Identifier.{Identifier}
use Rattle.dart_tree.specs.Places.{place_of}
use Rattle.dart_tree.specs.Types as y
use Rattle.dart_tree.specs.Tree as t
use Rattle.dart_tree.specs.Unit as u
use Rattle.translation.specs.ClassBodies.{class_number, members_of}
use Rattle.translation.specs.Classes.{is_static}
use Rattle.translation.specs.Surroundings.{Text}
use Rattle.translation.specs.Types.{text_of}
use Rattle.lower_leaf.specs.declared.meaning.Outer.{Outer}
use Rattle.lower_leaf.specs.Around.{Around}

-- the number of the declaration whose name stands at a place, if there is one
abbrev pub Numbers : Type 0
Numbers = Place → Option ℕ

-- ---- declarations of libraries

pub record Placed : Type 0 where
  pub library : ℕ
  pub kind : u.DeclKind

abbrev pub placed : ℕ → u.Decl → Placed
placed library x = record { library = library; kind = x.kind }

-- the declarations of units, each in the library of the number beside its unit
abbrev pub declarations : List ℕ → List u.UnitTree → List Placed
declarations (library ∷ homes) (unit ∷ units) = map (placed library) unit.declarations ++ declarations homes units
declarations _ _ = []

-- where names are looked up in a library, and inside of a class that it declares
abbrev pub library_outer : ℕ → Outer
library_outer library = record { library = library; class = None }

abbrev pub class_outer : Around → ℕ → Text → Outer
class_outer a library name =
    record { library = library; class = Some (record { 0 = class_number ((a.names (library_outer library)).meaning name) }) }

-- ---- library and static variables

-- a variable that has a number, what stands before its name, and where names are looked up there
pub record OuterVariable : Type 0 where
  pub number : ℕ
  pub outer : Outer
  pub kind : y.VariableKind

abbrev pub variable_numbered : Outer → y.VariableKind → Option ℕ → List OuterVariable
variable_numbered outer kind None = []
variable_numbered outer kind (Some n) = record { number = n; outer = outer; kind = kind } ∷ []

abbrev pub variable_named : Numbers → Outer → y.VariableKind → Identifier → List OuterVariable
variable_named number outer kind name = variable_numbered outer kind (number (place_of name))

abbrev pub more_named : Numbers → Outer → y.VariableKind → t.MoreVariables → List OuterVariable
more_named number outer kind t.no_variables = []
more_named number outer kind (t.variable comma name value rest) =
    variable_named number outer kind name ++ more_named number outer kind rest

-- several names of one declaration
abbrev pub variables_named : Numbers → Outer → t.Variables → List OuterVariable
variables_named number outer (t.the_variables kind name value more semicolon) =
    variable_named number outer kind name ++ more_named number outer kind more

abbrev pub member_variables : Numbers → Outer → u.MemberKind → List OuterVariable
member_variables number outer (u.variables_member x) = variables_named number outer x
member_variables number outer other = []

abbrev pub static_variables : Numbers → Outer → u.Member → List OuterVariable
static_variables number outer x = if is_static x.modifier then member_variables number outer x.kind else []

abbrev pub declared_variables : Numbers → Around → ℕ → u.DeclKind → List OuterVariable
declared_variables number a library (u.variables_decl x) = variables_named number (library_outer library) x
declared_variables number a library (u.class_decl x) =
    flat_map (static_variables number (class_outer a library (text_of x.name))) (members_of x.kind)
declared_variables number a library other = []

abbrev pub variables_of : Numbers → Around → List Placed → List OuterVariable
variables_of number a all = flat_map (λ (x : Placed). declared_variables number a x.library x.kind) all

-- ---- aliases

-- an alias that has a number, in its library
pub record Alias : Type 0 where
  pub number : ℕ
  pub library : ℕ
  pub written : u.Alias

abbrev pub alias_numbered : ℕ → u.Alias → Option ℕ → List Alias
alias_numbered library x None = []
alias_numbered library x (Some n) = record { number = n; library = library; written = x } ∷ []

abbrev pub declared_aliases : Numbers → ℕ → u.DeclKind → List Alias
declared_aliases number library (u.alias_decl x) = alias_numbered library x (number (place_of x.name))
declared_aliases number library other = []

abbrev pub aliases_of : Numbers → List Placed → List Alias
aliases_of number all = flat_map (λ (x : Placed). declared_aliases number x.library x.kind) all
