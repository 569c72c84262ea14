-- What class declarations are read in, by what is made for a program. Means of proof, which no public contract cites.
use Rattle.std.specs.Prelude.{ℕ, ◌==◌, List, length, slice_get, Bool, true, false, Option, None, Some, unwrap_or}
use Rattle.std.specs.Option.{option_map, option_map_or}
use Rattle.dart_base.specs.declared.place.Place.{Place}
use Rattle.dart_ir.specs.Ty.{dynamic}
use Rattle.dart_ir.specs.declared.number.ClassId.{ClassId}
use Rattle.lower_leaf.specs.declared.meaning.Outer.{Outer}
use Rattle.lower_leaf.specs.Around.{Around}
use Rattle.lower_annotation.specs.Seen.{annotations_seen}
use Rattle.lower_annotation.specs.declared.annotations.Annotations.{Annotations}
use Rattle.class_reader.specs.Given.{given_of}
use Rattle.class_source.specs.Source.{Given}
use Rattle.translation.specs.Surroundings.{Text, Meaning, Names, Tables, Made}
use Rattle.translation.specs.Surroundings as m
use Rattle.scope_dictionary.specs.Names.{names_of}
use Rattle.scope_dictionary.specs.declared.library.LibraryNames.{LibraryNames}
use Rattle.scope_class.specs.Inside.{header_within, names_within, static_within}
use Rattle.scope_class.specs.Constructors as constructors
use Rattle.scope_program.specs.Around.{known_names, names_or, no_names}
use Rattle.scope_program.specs.Places.{at_place}
use Rattle.scope_program.specs.declared.class.ClassScope.{ClassScope}
use Rattle.scope_program.specs.declared.program.ProgramScopes.{ProgramScopes}
use Rattle.dart_class.specs.declared.scopes.DeclaredScopes.{DeclaredScopes}

-- what names mean in a library
abbrev pub library_names : ProgramScopes → ℕ → Names
library_names made library = names_or library (option_map names_of (slice_get made.libraries.items library))

-- what they mean in the header of a class, and inside of it
abbrev pub header_in : ProgramScopes → ClassScope → Option LibraryNames → Names
header_in made c None = no_names c.library
header_in made c (Some around) = known_names (length made.classes.items) c.parameters (header_within c.names (record (names_of around) { library = c.library }))

abbrev pub inside_in : ProgramScopes → ClassScope → Option LibraryNames → Names
inside_in made c None = no_names c.library
inside_in made c (Some around) = known_names (length made.classes.items) c.parameters (names_within c.names (record (names_of around) { library = c.library }))

abbrev pub class_header : ProgramScopes → Option ClassScope → Names
class_header made None = no_names 0
class_header made (Some c) = header_in made c (slice_get made.libraries.items c.library)

abbrev pub class_inside : ProgramScopes → Option ClassScope → Names
class_inside made None = no_names 0
class_inside made (Some c) = inside_in made c (slice_get made.libraries.items c.library)

abbrev pub class_at : ProgramScopes → ℕ → Option ClassScope
class_at made n = slice_get made.classes.items n

abbrev pub class_names : Bool → ProgramScopes → Option ClassScope → Names
class_names true made c = class_header made c
class_names false made c = class_inside made c

abbrev pub names_at : Bool → ProgramScopes → ℕ → Option ClassId → Names
names_at in_headers made library None = known_names (length made.classes.items) 0 (library_names made library)
names_at in_headers made library (Some k) = class_names in_headers made (class_at made k.0)

abbrev pub static_in : Option ClassScope → Text → Meaning
static_in None name = m.unknown
static_in (Some c) name = static_within c.names name

abbrev pub constructor_in : Option ClassScope → Text → Made
constructor_in None id = m.no_constructor
constructor_in (Some c) id = constructors.constructor_in c.constructors id

abbrev pub tables : ProgramScopes → Tables
tables made = record {
  parameters = λ n. option_map_or (λ (c : ClassScope). c.parameters) (class_at made n) 0;
  is_bounded = λ n. option_map_or (λ (c : ClassScope). c.is_bounded) (class_at made n) false;
  superclass = λ n. None;
  first_field = λ n. 0;
  mixin = λ n. None;
  class_names = λ n. class_inside made (class_at made n);
  static = λ n. static_in (class_at made n);
  constructor = λ n. constructor_in (class_at made n);
  variable_type = λ n. None;
  alias_type = λ n given. dynamic;
  native = λ n. None;
  int_class = made.int_class;
  string_class = made.string_class;
  map_class = made.map_class;
}

-- what is made for a program, as what types are read in
abbrev pub around : Bool → ProgramScopes → Around
around in_headers made = record {
  texts = made.names;
  names = λ (outer : Outer). names_at in_headers made outer.library outer.class;
  tables = tables made;
}

abbrev pub around_of : DeclaredScopes → Around
around_of d = around d.in_headers d.scopes.now

-- the library of each class, and the numbers of declarations
abbrev pub library_of : ProgramScopes → ℕ → ℕ
library_of made n = option_map_or (λ (c : ClassScope). c.library) (class_at made n) 0

abbrev pub number_of : ProgramScopes → Place → ℕ
number_of made place = unwrap_or (at_place made.places place) (length made.numbered.items)

-- whether there is a class of the number that has no type parameters
abbrev pub is_simple : List ClassScope → ℕ → Bool
is_simple classes number = option_map_or (λ (c : ClassScope). c.parameters == 0) (slice_get classes number) false

-- what is made for the program with what annotations ask for
abbrev pub signed : DeclaredScopes → Annotations → Around
signed d made = annotations_seen (around_of d) made

-- what classes are read with, by what is made for their headers and for their members
abbrev pub given_by : DeclaredScopes → DeclaredScopes → Annotations → Given
given_by headers members made = given_of (signed headers made) (signed members made) (library_of members.scopes.now) (number_of members.scopes.now)
