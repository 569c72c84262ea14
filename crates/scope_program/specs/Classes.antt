-- The classes that the units of a program declare, as the scopes of the program see them (ECMA-408, 10 Classes, 12 Mixins, 13 Enums).
use Rattle.std.specs.Prelude.{ℕ, ◌+◌, ◌*◌, nat_eq, List, [], ◌∷◌, ◌++◌, flat_map, length, map, position, bytes_eq, Bool, false, ◌&&◌, Option, None, Some, unwrap_or, sum_by, if◌then◌else◌}
use Rattle.std.specs.List.{list_any}
use Rattle.std.specs.Option.{is_some}
use Rattle.dart_base.specs.declared.place.Place.{Place}
use Rattle.dart_tree.specs.Places.{place_of}
use Rattle.dart_tree.specs.declared.identifier.Identifier.{Identifier}
use Rattle.dart_tree.specs.Tree as t
use Rattle.dart_tree.specs.Unit as u
use Rattle.scope_declared.specs.declared.declaration.Declared.{Declared}
use Rattle.translation.specs.Surroundings.{Text}
use Rattle.translation.specs.Types.{text_of, is_final}
use Rattle.translation.specs.Classes.{is_static}
use Rattle.translation.specs.ClassBodies.{members_of, is_mixed}

-- What the declaration of a class says of scopes: its library, its number among the declarations that have one, its name, its type
-- parameters, whether any of them has a bound, whether it is written as a mixin application, and its members.
pub record ClassScope : Type 0 where
  pub library : ℕ
  pub declaration : ℕ
  pub name : Text
  pub parameters : List Text
  pub is_bounded : Bool
  pub is_mixed : Bool
  pub members : List u.Member

abbrev pub same_place : Place → Place → Bool
same_place x y = nat_eq x.unit y.unit && nat_eq x.line y.line && nat_eq x.column y.column

-- the number of the first declaration whose name stands at a place
abbrev pub position_of : List Declared → Place → Option ℕ
position_of numbered place = position (λ d. same_place d.place place) numbered

-- and where there is none, past the last
abbrev pub number_at : List Declared → Place → ℕ
number_at numbered place = unwrap_or (position_of numbered place) (length numbered)

-- the type parameters (14 Generics)
abbrev pub parameters_of : Option u.TypeParameters → List u.TypeParameter
parameters_of None = []
parameters_of (Some x) = x.items

abbrev pub has_bound : u.TypeParameter → Bool
has_bound p = is_some p.bound

-- the scope of a class of that name in a library, with these type parameters and members
abbrev pub scope_of : List Declared → ℕ → Identifier → List u.TypeParameter → Bool → List u.Member → ClassScope
scope_of numbered library name parameters is_mixed members = record {
  library = library;
  declaration = number_at numbered (place_of name);
  name = text_of name;
  parameters = map (λ (p : u.TypeParameter). text_of p.name) parameters;
  is_bounded = list_any has_bound parameters;
  is_mixed = is_mixed;
  members = members;
}

abbrev pub class_scope : List Declared → ℕ → u.Class → ClassScope
class_scope numbered library x = scope_of numbered library x.name (parameters_of x.parameters) (is_mixed x.kind) (members_of x.kind)

-- An enum has the scope of the class that it stands for, none of whose members is written (13 Enums).
abbrev pub enum_scope : List Declared → ℕ → u.Enum → ClassScope
enum_scope numbered library x = scope_of numbered library x.name [] false []

-- the class that a declaration is, if it is one
abbrev pub declared_scope : List Declared → ℕ → u.DeclKind → List ClassScope
declared_scope numbered library (u.class_decl x) = class_scope numbered library x ∷ []
declared_scope numbered library (u.enum_decl x) = enum_scope numbered library x ∷ []
declared_scope numbered library other = []

abbrev pub unit_scopes : List Declared → ℕ → List u.Decl → List ClassScope
unit_scopes numbered library all = flat_map (λ (x : u.Decl). declared_scope numbered library x.kind) all

-- the classes of units in source order, where each belongs to the library of the number beside it
abbrev pub class_scopes : List Declared → List ℕ → List u.UnitTree → List ClassScope
class_scopes numbered (library ∷ homes) (unit ∷ units) =
    unit_scopes numbered library unit.declarations ++ class_scopes numbered homes units
class_scopes numbered _ _ = []

-- the number of the class of that name in a library; where there is none, past the last
abbrev pub class_called : List ClassScope → ℕ → Text → ℕ
class_called all library name = unwrap_or (position (λ c. nat_eq c.library library && bytes_eq c.name name) all) (length all)

-- ---- the accessors of the fields of instances (10.5 Instance Variables)

abbrev pub more_count : t.MoreVariables → ℕ
more_count t.no_variables = 0
more_count (t.variable comma name value rest) = more_count rest + 1

-- a getter for each variable, and a setter where it isn't final
abbrev pub variable_accessors : t.Variables → ℕ
variable_accessors (t.the_variables kind name value more semicolon) = (more_count more + 1) * (if is_final kind then 1 else 2)

abbrev pub kind_accessors : u.MemberKind → ℕ
kind_accessors (u.variables_member x) = variable_accessors x
kind_accessors other = 0

abbrev pub member_accessors : u.Member → ℕ
member_accessors x = if is_static x.modifier then 0 else kind_accessors x.kind

-- how many implicit accessors the fields among the members have
abbrev pub accessor_count : List u.Member → ℕ
accessor_count members = sum_by member_accessors members
