-- What class declarations are read with, as contracts see it.
use Rattle.std.specs.Prelude.{◌≡◌, ℕ, List, [], ◌∷◌, map, Some}
use Rattle.dart_tree.specs.declared.unit.Unit.{Unit}
use Rattle.dart_tree.specs.Unit as u
use Rattle.dart_tree.specs.UnitView as view
use Rattle.translation.specs.Walk.{State}
use Rattle.lower_leaf.specs.declared.meaning.Outer.{Outer}
use Rattle.lower_leaf.specs.Around.{Around}
use Rattle.class_source.specs.Members.{Numbers}
use Rattle.class_source.specs.Source.{SourceUnit, Given, reading}
use Rattle.class_reader.specs.declared.home.Home.{Home}

-- where the names of class n are looked up, by the library of each class
abbrev pub outer_of : (ℕ → ℕ) → ℕ → Outer
outer_of libraries n = record { library = libraries n; class = Some (record { 0 = n }) }

-- One table has what names mean in the headers of classes, and one what they mean among their members.
abbrev pub given_of : Around → Around → (ℕ → ℕ) → Numbers → Given
given_of headers members libraries number = record {
  tables = members.tables;
  header_names = λ n. headers.names (outer_of libraries n);
  number = number;
}

-- The two speak of one program, and the names among the members of a class are those that its table has.
pub record AreJoint (headers members : Around) (libraries : ℕ → ℕ) : Type 0 where
  pub texts : headers.texts ≡ members.texts
  pub tables : headers.tables ≡ members.tables
  pub names : (n : ℕ) → members.tables.class_names n ≡ members.names (outer_of libraries n)

-- what types are read in where names are looked up there
abbrev pub reading_in : Around → Outer → State
reading_in a outer = reading (record { tables = a.tables; header_names = λ n. a.names outer; number = λ place. 0 }) (a.names outer)

-- a unit, and the library to which it belongs
abbrev pub source_unit : Home → List u.Decl → SourceUnit
source_unit home declarations = record {
  library = home.library;
  is_user = home.is_user;
  is_core = home.is_core;
  declarations = declarations;
}

abbrev pub source_units : List Home → List Unit → List SourceUnit
source_units [] units = []
source_units (home ∷ homes) [] = []
source_units (home ∷ homes) (unit ∷ units) =
    source_unit home (map view.decl unit.declarations.items) ∷ source_units homes units
