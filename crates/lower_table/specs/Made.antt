-- What is made for a program, as what its names mean where classes are numbered as they are declared.
use Rattle.std.specs.Prelude.{ℕ, length, map, Option, Some, None, slice_get}
use Rattle.dart_ir.specs.declared.class.Classes.{Classes}
use Rattle.lower_leaf.specs.Around.{Around}
use Rattle.translation.specs.Surroundings.{Text, Meaning, Names, Made}
use Rattle.translation.specs.Surroundings as m
use Rattle.scope_dictionary.specs.Names.{names_of}
use Rattle.scope_dictionary.specs.declared.library.LibraryNames.{LibraryNames}
use Rattle.scope_class.specs.Inside.{names_within, static_within}
use Rattle.scope_class.specs.Constructors.{constructor_in}
use Rattle.scope_program.specs.Around.{no_names, known_names}
use Rattle.scope_program.specs.declared.class.ClassScope.{ClassScope}
use Rattle.scope_program.specs.declared.program.ProgramScopes.{ProgramScopes}
use Rattle.lower_table.specs.Table.{Meanings, around_by}
use Rattle.lower_table.specs.Rows.{Index, Source, index_of, rows_of}
use Rattle.lower_added.specs.Added.{Written}
use Rattle.lower_added.specs.Natives.{natives}
use Rattle.lower_added.specs.Written.{all_generative, written_class}
use Rattle.lower_table.specs.declared.table.TableScopes.{TableScopes}

abbrev pub library_names : ProgramScopes → ℕ → Option LibraryNames → Names
library_names x library None = known_names (length x.classes.items) 0 (no_names library)
library_names x library (Some found) = known_names (length x.classes.items) 0 (names_of found)

-- inside of a class, in a library
abbrev pub names_between : ProgramScopes → ClassScope → Option LibraryNames → Names
names_between x c None = no_names 0
names_between x c (Some found) =
    known_names (length x.classes.items) c.parameters (names_within c.names (record (names_of found) { library = c.library }))

abbrev pub class_names : ProgramScopes → Option ClassScope → Names
class_names x None = no_names 0
class_names x (Some c) = names_between x c (slice_get x.libraries.items c.library)

abbrev pub static_made : Option ClassScope → Text → Meaning
static_made None name = m.unknown
static_made (Some c) name = static_within c.names name

abbrev pub constructor_made : Option ClassScope → Text → Made
constructor_made None id = m.no_constructor
constructor_made (Some c) id = constructor_in c.constructors id

abbrev pub meanings_made : ProgramScopes → Meanings
meanings_made x = record {
  texts = x.names;
  in_library = λ library. library_names x library (slice_get x.libraries.items library);
  in_class = λ n. class_names x (slice_get x.classes.items n);
  static = λ n. static_made (slice_get x.classes.items n);
  constructor = λ n. constructor_made (slice_get x.classes.items n);
}

abbrev pub index_made : TableScopes → Index
index_made t = record {
  rows = t.rows.items;
  classes = t.declared.items;
  applications = t.applications.items;
  parameters = t.parameters.items;
  constructors = map (all_generative t.scopes.now.kept) t.constructors.items;
  natives = t.natives.items;
  int_class = t.int_class;
  string_class = t.string_class;
  map_class = t.map_class;
}

-- what the classes of the program are as they are declared
abbrev pub written_made : ProgramScopes → ClassScope → Written
written_made x c = written_class x.kept x.numbered.items c.declaration c.accessors c.has_constructor c.ways.items

abbrev pub source_made : ProgramScopes → Source
source_made x = record {
  declarations = map (λ (c : ClassScope). c.declaration) x.classes.items;
  mixed = map (λ (c : ClassScope). c.is_mixed) x.classes.items;
  written = map (written_made x) x.classes.items;
  count = length x.numbered.items;
  natives = natives x.kept x.numbered.items;
  int_class = x.int_class;
  string_class = x.string_class;
  map_class = x.map_class;
}

-- what the value is
abbrev pub around_made : TableScopes → Around
around_made t = around_by (meanings_made t.scopes.now) (rows_of t.scopes.now.names t.classes.now) (index_made t)

-- and what it is to be, where that is made for a program
abbrev pub around_of : ProgramScopes → Classes → Around
around_of x k = around_by (meanings_made x) (rows_of x.names k) (index_of (source_made x) (rows_of x.names k))
