-- The classes that the units of a program declare, in source order (ECMA-408, 10 Classes, 12 Mixins, 13 Enums).
use Rattle.std.specs.Prelude.{ℕ, ◌+◌, List, [], ◌∷◌, ◌++◌, flat_map, length, nat_eq, bytes_eq, None, Some, Bool, true, false, ◌&&◌, codes, if◌then◌else◌}
use Rattle.std.specs.List.{list_any}
use Rattle.std.specs.Option.{is_some}
use Rattle.dart_base.specs.declared.place.Place.{Place}
use Rattle.dart_tree.specs.Places.{place_of}
use Rattle.dart_tree.specs.Unit as u
use Rattle.dart_ir.specs.Ty.{class, function, nil, unnamed}
use Rattle.dart_ir.specs.declared.class.Role.{Role}
use Rattle.dart_ir.specs.declared.class.Role.TheVariants.{Method, Getter}
use Rattle.class_fault.specs.declared.program.Standing.{Standing}
use Rattle.translation.specs.Surroundings.{Text, Ty, Names, Tables, name_in}
use Rattle.translation.specs.Walk.{State, unasked}
use Rattle.translation.specs.Types.{text_of}
use Rattle.translation.specs.ClassBodies.{members_of, is_mixed}
use Rattle.class_source.specs.Rows.{Member, Class, Classes}
use Rattle.class_source.specs.Headers.{named, bounds}
use Rattle.class_source.specs.Members.{Numbers, instance_members, field_count, is_external_member, is_constructor_member, names_super}

-- the declarations of a unit, and where it stands
pub record SourceUnit : Type 0 where
  pub library : ℕ
  -- whether it is a file of the user's, and whether it is one of `dart:core`
  pub is_user : Bool
  pub is_core : Bool
  pub declarations : List u.Decl

-- What names mean. Classes are numbered as they are declared in the program, from 0.
pub record Given : Type 0 where
  -- what types and names of members are read with: how many type parameters a class has, what an alias stands for, and what
  -- names mean among the members of a class
  pub tables : Tables
  -- what names mean in the header of a class: its type parameters, then the library's
  pub header_names : ℕ → Names
  -- the number of the declaration whose name stands at a place
  pub number : Numbers

-- Types are read where no local scope stands around, and type parameters may stand.
abbrev pub reading : Given → Names → State
reading given names = record {
  names = names;
  tables = given.tables;
  inside = record {
    class = Some 0;
    arguments = None;
    has_instance = false;
    result = unasked;
    gives_value = true;
    in_handler = false;
  };
  scopes = [];
  targets = [];
  variables = 0;
  declarations = 0;
  sites = [];
  literals = [];
  functions = [];
  statics = [];
  has_constants = false;
}

-- the classes of `dart:core` that no class of a user's file may name
abbrev pub basic_names : List Text
basic_names = codes "int" ∷ codes "num" ∷ codes "double" ∷ codes "String" ∷ codes "bool" ∷ codes "Null" ∷ []

abbrev pub is_basic : SourceUnit → Text → Bool
is_basic unit name = unit.is_core && list_any (bytes_eq name) basic_names

-- ---- classes (10 Classes)

abbrev pub standing : SourceUnit → Text → List u.Member → Standing
standing unit name members = record {
  is_user = unit.is_user;
  is_basic = is_basic unit name;
  has_external = list_any is_external_member members;
  has_constructor = list_any is_constructor_member members;
  names_super = list_any names_super members;
}

-- class n of the program
abbrev pub class_row : Given → SourceUnit → ℕ → u.Class → Class
class_row given unit n x = record {
  name = name_in unit.library (text_of x.name);
  library = unit.library;
  place = place_of x.name;
  declaration = given.number (place_of x.name);
  is_abstract = is_some x.abstracted;
  is_application = is_mixed x.kind;
  standing = standing unit (text_of x.name) (members_of x.kind);
  bounds = bounds (reading given (given.header_names n)) x.parameters;
  superclass = (named (reading given (given.header_names n)) x.kind).superclass;
  mixins = (named (reading given (given.header_names n)) x.kind).mixins;
  interfaces = (named (reading given (given.header_names n)) x.kind).interfaces;
  members = flat_map (instance_members given.number (reading given (given.tables.class_names n))) (members_of x.kind);
  fields = field_count (members_of x.kind);
}

-- ---- enums (13 Enums)

abbrev pub returning : ℕ → Ty
returning c = function (class c nil) nil nil unnamed

abbrev pub enum_member : Place → ℕ → Role → Text → ℕ → Member
enum_member place number role name of = record {
  name = name;
  role = role;
  function = number;
  signature = returning of;
  place = place;
  has_body = true;
}

-- An enum stands for a class. Each element has its index, and the text that `toString` answers, whose name no source can spell.
-- These fields are numbered behind the enum; behind them a constructor and the elements, and then `toString`.
abbrev pub enum_members : Tables → Place → ℕ → u.Enum → List Member
enum_members tables place number x =
    enum_member place (number + 1) Getter (codes "index") tables.int_class
    ∷ enum_member place (number + 2) Getter (codes "enum") tables.string_class
    ∷ enum_member place (number + 5 + length x.more) Method (codes "toString") tables.string_class ∷ []

abbrev pub enum_row : Given → SourceUnit → u.Enum → Class
enum_row given unit x = record {
  name = name_in unit.library (text_of x.name);
  library = unit.library;
  place = place_of x.name;
  declaration = given.number (place_of x.name);
  is_abstract = false;
  is_application = false;
  standing = record {
    is_user = unit.is_user;
    is_basic = false;
    has_external = false;
    has_constructor = true;
    names_super = false;
  };
  bounds = [];
  superclass = None;
  mixins = [];
  interfaces = [];
  members = enum_members given.tables (place_of x.name) (given.number (place_of x.name)) x;
  fields = 2;
}

-- ---- a program

-- the class that a declaration is, where it is one, as class n
abbrev pub declared_class : Given → SourceUnit → ℕ → u.DeclKind → List Class
declared_class given unit n (u.class_decl x) = class_row given unit n x ∷ []
declared_class given unit n (u.enum_decl x) = enum_row given unit x ∷ []
declared_class given unit n other = []

-- those of some declarations, from number n on
abbrev pub declared_classes : Given → SourceUnit → ℕ → List u.Decl → List Class
declared_classes given unit n [] = []
declared_classes given unit n (x ∷ xs) = declared_class given unit n x.kind
    ++ declared_classes given unit (n + length (declared_class given unit n x.kind)) xs

abbrev pub unit_classes : Given → ℕ → List SourceUnit → List Class
unit_classes given n [] = []
unit_classes given n (x ∷ xs) = declared_classes given x n x.declarations
    ++ unit_classes given (n + length (declared_classes given x n x.declarations)) xs

-- the first class of that name in a library, counted from n; where there is none, past the last
abbrev pub class_called : ℕ → Text → ℕ → List Class → ℕ
class_called library name n [] = n
class_called library name n (x ∷ xs) =
    if nat_eq x.library library && bytes_eq x.name name then n else class_called library name (n + 1) xs

-- the library of the first unit of `dart:core`
abbrev pub core_library : List SourceUnit → ℕ
core_library [] = 0
core_library (x ∷ xs) = if x.is_core then x.library else core_library xs

-- the classes of a program
abbrev pub classes_of : Given → List SourceUnit → Classes
classes_of given units = record {
  classes = unit_classes given 0 units;
  object = class_called (core_library units) (codes "Object") 0 (unit_classes given 0 units);
  function = class_called (core_library units) (codes "Function") 0 (unit_classes given 0 units);
}
