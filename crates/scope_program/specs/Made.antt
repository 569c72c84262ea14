-- What is made for a program, as what its names mean.
use Rattle.std.specs.Prelude.{◌≡◌, ℕ, ◌<◌, ◌==◌, ◌&&◌, Bool, List, find, length, map, position, slice_get, slice_index_or, bytes_eq, codes, Some, unwrap_or}
use Rattle.std.specs.List.{AllZip}
use Rattle.std.specs.Option.{option_map}
use Rattle.dart_base.specs.declared.place.Place.{Place}
use Rattle.dart_tree.specs.Unit.{UnitTree}
use Rattle.scope_declared.specs.Number.{number_in}
use Rattle.scope_declared.specs.declared.declaration.Declared.{Declared}
use Rattle.translation.specs.Surroundings.{Text}
use Rattle.translation.specs.ClassBodies.{has_constructor}
use Rattle.scope_library.specs.declared.library.TheConstants.{CORE_UNIT}
use Rattle.scope_space.specs.Entry.{can_start}
use Rattle.scope_space.specs.Namespace.{own}
use Rattle.scope_space.specs.declared.library.Library.{Library}
use Rattle.scope_dictionary.specs.Names.{names_of}
use Rattle.scope_dictionary.specs.declared.library.LibraryNames.{LibraryNames}
use Rattle.scope_class.specs.Constructors.{constructor_in, constructor_of, makings}
use Rattle.scope_class.specs.Inside.{AreClassNames}
use Rattle.scope_program.specs.Classes.{ClassScope, accessor_count, class_called, class_scopes, position_of}
use Rattle.scope_program.specs.Places.{at_place}
use Rattle.scope_program.specs.Program.{Scoping}
use Rattle.scope_program.specs.declared.class.ClassScope as made_class
use Rattle.scope_program.specs.declared.program.ProgramScopes.{ProgramScopes}

-- what is made for a class
pub record IsClassOf (texts : List Text) (numbered : List Declared) (c : ClassScope) (made : made_class.ClassScope) : Type 0 where
  pub library : made.library ≡ c.library
  pub declaration : made.declaration ≡ c.declaration
  pub name : made.name ≡ c.name
  pub parameters : made.parameters ≡ length c.parameters
  pub is_bounded : made.is_bounded ≡ c.is_bounded
  pub is_mixed : made.is_mixed ≡ c.is_mixed
  pub has_constructor : made.has_constructor ≡ has_constructor c.members
  pub accessors : made.accessors ≡ accessor_count c.members
  pub ways : made.ways.items ≡ makings c.members
  pub names : AreClassNames texts numbered c.library c.declaration c.parameters made.names
  pub constructors : (id : Text) → constructor_in made.constructors id ≡ constructor_of texts numbered c.declaration (makings c.members) id

-- and for each of some classes
abbrev pub AreClassesOf : List Text → List Declared → List ClassScope → List made_class.ClassScope → Type 0
AreClassesOf texts numbered all made = AllZip (IsClassOf texts numbered) all made

-- What is made for a program: each library and class has its names, each class stands in a library, and the classes of `dart:core` that
-- are asked for by name are found.
pub record AreScopesOf (s : Scoping) (made : ProgramScopes) : Type 0 where
  pub kept : made.kept ≡ s.kept
  pub texts : made.names ≡ s.texts
  pub homes : made.homes.items ≡ s.homes
  pub numbered : made.numbered.items ≡ s.numbered
  pub places : (place : Place) → at_place made.places place ≡ position_of s.numbered place
  pub libraries : map names_of made.libraries.items ≡ s.libraries
  pub classes : AreClassesOf s.kept s.numbered s.classes made.classes.items
  pub housed : (n : ℕ) (c : ClassScope) → slice_get s.classes n ≡ Some c → c.library < length s.libraries
  pub core : made.core ≡ s.core
  pub main : made.main ≡ s.main
  pub int_class : made.int_class ≡ class_called s.classes s.core (codes "int")
  pub string_class : made.string_class ≡ class_called s.classes s.core (codes "String")
  pub map_class : made.map_class ≡ class_called s.classes s.core (codes "Map")

-- ---- Means of proof, which no public contract cites

-- what names mean in a program whose libraries have these namespaces and dictionaries
abbrev pub scoping_of : List Text → List Text → List ℕ → List Declared → List Library → List LibraryNames → List UnitTree → Scoping
scoping_of kept texts homes numbered spaces libraries units = record {
  kept = kept;
  texts = texts;
  homes = homes;
  numbered = numbered;
  libraries = map names_of libraries;
  classes = class_scopes numbered homes units;
  core = slice_index_or homes CORE_UNIT 0;
  main = option_map (λ d. d.number) (find (λ d. can_start d.kind) (own spaces 0 (number_in kept (codes "main"))));
}

-- the number of the class of that name in a library, among what is made for classes
abbrev pub is_called : ℕ → Text → made_class.ClassScope → Bool
is_called library name c = c.library == library && bytes_eq c.name name

abbrev pub made_called : List made_class.ClassScope → ℕ → Text → ℕ
made_called all library name = unwrap_or (position (is_called library name) all) (length all)
