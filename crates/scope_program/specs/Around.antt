-- What names mean throughout a program, with classes numbered as they are declared (ECMA-408, 10 Classes, 16.33 Identifier Reference).
use Rattle.std.specs.Prelude.{ℕ, nat_lt, length, codes, Option, None, Some, false, if◌then◌else◌, slice_get}
use Rattle.std.specs.Option.{option_map_or}
use Rattle.dart_ir.specs.Ty.{dynamic}
use Rattle.dart_ir.specs.declared.number.ClassId.{ClassId}
use Rattle.lower_leaf.specs.declared.meaning.Outer.{Outer}
use Rattle.lower_leaf.specs.Around.{Around}
use Rattle.translation.specs.Surroundings.{Text, Meaning, Names, Tables, Made}
use Rattle.translation.specs.Surroundings as m
use Rattle.scope_class.specs.Inside as inside
use Rattle.scope_class.specs.Constructors.{constructor_of, makings}
use Rattle.scope_program.specs.Classes.{ClassScope, class_called}
use Rattle.scope_program.specs.Program.{Scoping}

-- where nothing has a meaning
abbrev pub no_names : ℕ → Names
no_names library = record { library = library; meaning = λ name. m.unknown; prefixed = λ prefix name. m.unknown }

abbrev pub names_or : ℕ → Option Names → Names
names_or library None = no_names library
names_or library (Some names) = names

-- A number of no class, or of no type parameter, means nothing.
abbrev pub known : ℕ → ℕ → Meaning → Meaning
known classes parameters (m.class n) = if nat_lt n classes then m.class n else m.unknown
known classes parameters (m.type_parameter n) = if nat_lt n parameters then m.type_parameter n else m.unknown
known classes parameters other = other

abbrev pub known_names : ℕ → ℕ → Names → Names
known_names classes parameters names = record names {
  meaning = λ name. known classes parameters (names.meaning name);
  prefixed = λ prefix name. known classes parameters (names.prefixed prefix name);
}

-- what names mean in a library
abbrev pub names_in : Scoping → ℕ → Names
names_in s library = names_or library (slice_get s.libraries library)

-- what names mean in the header of a class, and inside of it
abbrev pub names_in_header : Scoping → Option ClassScope → Names
names_in_header s None = no_names 0
names_in_header s (Some c) = known_names (length s.classes) (length c.parameters)
    (inside.header_names c.parameters (record (names_in s c.library) { library = c.library }))

abbrev pub names_in_class : Scoping → Option ClassScope → Names
names_in_class s None = no_names 0
names_in_class s (Some c) = known_names (length s.classes) (length c.parameters)
    (inside.class_names s.kept s.numbered c.declaration c.parameters (record (names_in s c.library) { library = c.library }))

-- where names are looked up: in a library, or in a class of it
abbrev pub names_at : Scoping → ℕ → Option ClassId → Names
names_at s library None = known_names (length s.classes) 0 (names_in s library)
names_at s library (Some k) = names_in_class s (slice_get s.classes k.0)

abbrev pub header_names_at : Scoping → ℕ → Option ClassId → Names
header_names_at s library None = known_names (length s.classes) 0 (names_in s library)
header_names_at s library (Some k) = names_in_header s (slice_get s.classes k.0)

-- what a class declares as static, and its constructors
abbrev pub static_in : Scoping → Option ClassScope → Text → Meaning
static_in s None name = m.unknown
static_in s (Some c) name = inside.static s.kept s.numbered c.declaration name

abbrev pub constructor_in : Scoping → Option ClassScope → Text → Made
constructor_in s None id = m.no_constructor
constructor_in s (Some c) id = constructor_of s.kept s.numbered c.declaration (makings c.members) id

-- What else of the tables the headers and the signatures of classes are read with. What a class inherits isn't asked for there, and in
-- production an annotation asks for nothing.
abbrev pub declared_tables : Scoping → Tables
declared_tables s = record {
  parameters = λ n. option_map_or (λ c. length c.parameters) (slice_get s.classes n) 0;
  is_bounded = λ n. option_map_or (λ c. c.is_bounded) (slice_get s.classes n) false;
  superclass = λ n. None;
  first_field = λ n. 0;
  mixin = λ n. None;
  class_names = λ n. names_in_class s (slice_get s.classes n);
  static = λ n. static_in s (slice_get s.classes n);
  constructor = λ n. constructor_in s (slice_get s.classes n);
  variable_type = λ n. None;
  alias_type = λ n given. dynamic;
  native = λ n. None;
  int_class = class_called s.classes s.core (codes "int");
  string_class = class_called s.classes s.core (codes "String");
  map_class = class_called s.classes s.core (codes "Map");
}

-- what the headers of classes are read in, and what their members are read in
abbrev pub headers_around : Scoping → Around
headers_around s = record {
  texts = s.texts;
  names = λ (outer : Outer). header_names_at s outer.library outer.class;
  tables = declared_tables s;
}

abbrev pub members_around : Scoping → Around
members_around s = record {
  texts = s.texts;
  names = λ (outer : Outer). names_at s outer.library outer.class;
  tables = declared_tables s;
}
