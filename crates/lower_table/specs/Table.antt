-- What the bodies of a program are translated in, where classes are numbered as rows of its table (ECMA-408, 16.33 Identifier Reference,
-- 10 Classes, 12.1 Mixin Application).
use Rattle.std.specs.Prelude.{ℕ, List, [], length, map, Option, Some, None, slice_get, unwrap_or, find, bytes_eq, codes}
use Rattle.dart_ir.specs.Ty.{dynamic}
use Rattle.dart_ir.specs.declared.class.Classes.{Classes}
use Rattle.dart_ir.specs.declared.number.ClassId.{ClassId}
use Rattle.translation.specs.ClassBodies.{has_constructor}
use Rattle.translation.specs.Surroundings.{Text, Meaning, Names, Tables, Made}
use Rattle.translation.specs.Surroundings as m
use Rattle.lower_leaf.specs.declared.meaning.Outer.{Outer}
use Rattle.lower_leaf.specs.Around.{Around}
use Rattle.scope_class.specs.Constructors.{makings}
use Rattle.scope_program.specs.Around.{no_names, names_at, names_in_class, static_in, constructor_in}
use Rattle.scope_program.specs.Classes.{ClassScope, accessor_count, class_called}
use Rattle.scope_program.specs.Program.{Scoping}
use Rattle.lower_added.specs.Added.{Generative, Written}
use Rattle.lower_added.specs.Natives.{natives}
use Rattle.lower_added.specs.Written.{written_class}
use Rattle.lower_table.specs.Rows.{Rows, Source, Index, rows_of, index_of, found_at, superclass_at, fields_of, is_bounded_at, mixin_at}

-- What names mean in a library and inside of a class, what a class declares as static, and the constructors that it writes, where
-- classes are numbered as they are declared.
pub record Meanings : Type 0 where
  pub texts : List Text
  pub in_library : ℕ → Names
  pub in_class : ℕ → Names
  pub static : ℕ → Text → Meaning
  pub constructor : ℕ → Text → Made

-- ---- names

-- A class is its row; one that has none means nothing.
abbrev pub class_meaning : Option ℕ → Meaning
class_meaning None = m.unknown
class_meaning (Some row) = m.class row

abbrev pub renumbered : List (Option ℕ) → Meaning → Meaning
renumbered rows (m.class n) = class_meaning (found_at rows n)
renumbered rows other = other

abbrev pub renumbered_names : List (Option ℕ) → Names → Names
renumbered_names rows names = record names {
  meaning = λ name. renumbered rows (names.meaning name);
  prefixed = λ prefix name. renumbered rows (names.prefixed prefix name);
}

-- inside of a class, if it is one that is declared
abbrev pub names_inside : Meanings → List (Option ℕ) → Option ℕ → Names
names_inside s rows None = no_names 0
names_inside s rows (Some c) = renumbered_names rows (s.in_class c)

-- in a library, or inside of a row
abbrev pub names_by : Meanings → Index → ℕ → Option ClassId → Names
names_by s i library None = renumbered_names i.rows (s.in_library library)
names_by s i library (Some row) = names_inside s i.rows (found_at i.classes row.0)

-- ---- static members and constructors

abbrev pub static_behind : Meanings → Option ℕ → Text → Meaning
static_behind s None name = m.unknown
static_behind s (Some c) name = s.static c name

abbrev pub constructor_written : Meanings → Option ℕ → Text → Made
constructor_written s None id = m.no_constructor
constructor_written s (Some c) id = s.constructor c id

abbrev pub generative_if : Option Generative → Made
generative_if None = m.no_constructor
generative_if (Some x) = m.generative x.number

abbrev pub constructor_called : List Generative → Text → Made
constructor_called all id = generative_if (find (λ x. bytes_eq x.id id) all)

-- what is written, or else what is added
abbrev pub made_or : Made → Made → Made
made_or m.no_constructor added = added
made_or written added = written

abbrev pub constructor_by : Meanings → Index → ℕ → Text → Made
constructor_by s i n id = made_or (constructor_written s (found_at i.classes n) id) (constructor_called (unwrap_or (slice_get i.constructors n) []) id)

-- ---- the tables

-- In production an annotation asks for nothing.
abbrev pub tables_by : Meanings → Rows → Index → Tables
tables_by s rows i = record {
  parameters = λ n. unwrap_or (slice_get i.parameters n) 0;
  is_bounded = is_bounded_at rows;
  superclass = superclass_at rows;
  first_field = λ n. fields_of rows (superclass_at rows n);
  mixin = mixin_at rows i.applications;
  class_names = λ n. names_inside s i.rows (found_at i.classes n);
  static = λ n. static_behind s (found_at i.classes n);
  constructor = constructor_by s i;
  variable_type = λ n. None;
  alias_type = λ n given. dynamic;
  native = found_at i.natives;
  int_class = i.int_class;
  string_class = i.string_class;
  map_class = i.map_class;
}

abbrev pub around_by : Meanings → Rows → Index → Around
around_by s rows i = record {
  texts = s.texts;
  names = λ (outer : Outer). names_by s i outer.library outer.class;
  tables = tables_by s rows i;
}

-- ---- of a program

abbrev pub meanings_of : Scoping → Meanings
meanings_of s = record {
  texts = s.texts;
  in_library = λ library. names_at s library None;
  in_class = λ n. names_in_class s (slice_get s.classes n);
  static = λ n. static_in s (slice_get s.classes n);
  constructor = λ n. constructor_in s (slice_get s.classes n);
}

abbrev pub written_of : Scoping → ClassScope → Written
written_of s c = written_class s.kept s.numbered c.declaration (accessor_count c.members) (has_constructor c.members) (makings c.members)

abbrev pub source_of : Scoping → Source
source_of s = record {
  declarations = map (λ c. c.declaration) s.classes;
  mixed = map (λ c. c.is_mixed) s.classes;
  written = map (written_of s) s.classes;
  count = length s.numbered;
  natives = natives s.kept s.numbered;
  int_class = class_called s.classes s.core (codes "int");
  string_class = class_called s.classes s.core (codes "String");
  map_class = class_called s.classes s.core (codes "Map");
}

-- what a program is translated in, whose names mean this and whose table of classes is this
abbrev pub table_around : Scoping → Classes → Around
table_around s k = around_by (meanings_of s) (rows_of s.texts k) (index_of (source_of s) (rows_of s.texts k))
