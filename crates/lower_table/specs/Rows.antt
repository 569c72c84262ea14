-- The classes of a table, and the classes as they are declared (ECMA-408, 10 Classes, 12 Mixins).
use Rattle.std.specs.Prelude.{ℕ, zero, suc, ◌==◌, List, [], ◌∷◌, length, map, Option, Some, None, Bool, true, false, slice_get, unwrap_or}
use Rattle.std.specs.Option.{is_some, option_and_then, option_map, option_map_or}
use Rattle.std.specs.List.{list_any, enumerate_from, position_from}
use Rattle.dart_ir.specs.Ty.{TysOf, class, nil, cons}
use Rattle.dart_ir.specs.declared.class.Classes.{Classes}
use Rattle.dart_ir.specs.declared.native.NativeId.{NativeId}
use Rattle.core_program.specs.Named as with_names
use Rattle.core_program.specs.Program as p
use Rattle.core_program.specs.ProgramView as pv
use Rattle.translation.specs.Surroundings.{Text, Ty, Mixin}
use Rattle.lower_annotation.specs.Instance.{instance}
use Rattle.lower_added.specs.Added.{Generative, Written, constructors_added, starts_added}
use Rattle.lower_added.specs.declared.added.Row.{Row}

-- the classes of a table, with names as texts
abbrev pub Rows : Type 0
Rows = List (p.Class Text)

abbrev pub rows_of : List Text → Classes → Rows
rows_of texts k = map (λ x. with_names.class (pv.text_at texts) (pv.class x)) k.classes.items

-- what stands at a place of a list, if anything does
abbrev pub joined : {A : Type 0} → Option (Option A) → Option A
joined None = None
joined (Some x) = x

abbrev pub found_at : {A : Type 0} → List (Option A) → ℕ → Option A
found_at xs n = joined (slice_get xs n)

-- ---- which row a declared class is

abbrev pub is_number : ℕ → Option ℕ → Bool
is_number n None = false
is_number n (Some k) = k == n

-- where a number stands first
abbrev pub place_of : List (Option ℕ) → ℕ → Option ℕ
place_of numbers n = position_from (is_number n) 0 numbers

abbrev pub place_in : List (Option ℕ) → Option ℕ → Option ℕ
place_in numbers None = None
place_in numbers (Some n) = place_of numbers n

-- the numbers of their declarations: a mixin application without one has none
abbrev pub row_declarations : Rows → List (Option ℕ)
row_declarations rows = map (λ row. row.declaration) rows

abbrev pub class_declarations : List ℕ → List (Option ℕ)
class_declarations declarations = map Some declarations

-- the row of each class that is declared by these declarations
abbrev pub rows_declared : List ℕ → Rows → List (Option ℕ)
rows_declared declarations rows = map (place_in (row_declarations rows)) (class_declarations declarations)

-- the class that each row is
abbrev pub classes_of : List ℕ → Rows → List (Option ℕ)
classes_of declarations rows = map (place_in (class_declarations declarations)) (row_declarations rows)

-- ---- what a row is

-- the class that a type is of
abbrev pub class_of : Ty → Option ℕ
class_of (class n arguments) = Some n
class_of other = None

abbrev pub superclass_of : p.Class Text → Option ℕ
superclass_of row = option_and_then class_of row.superclass

abbrev pub superclass_at : Rows → ℕ → Option ℕ
superclass_at rows n = option_and_then superclass_of (slice_get rows n)

-- how many fields stand above those of a row
abbrev pub fields_of : Rows → Option ℕ → ℕ
fields_of rows None = 0
fields_of rows (Some n) = option_map_or (λ row. row.fields) (slice_get rows n) 0

-- how many type parameters each row has
abbrev pub parameter_counts : Rows → List ℕ
parameter_counts rows = map (λ row. length row.bounds) rows

abbrev pub is_bounded_at : Rows → ℕ → Bool
is_bounded_at rows n = option_map_or (λ row. list_any is_some row.bounds) (slice_get rows n) false

-- the types of a list
abbrev pub listed : TysOf Text → List Ty
listed nil = []
listed (cons t ts) = t ∷ listed ts

-- ---- mixins

-- A row is a mixin application that has no declaration, or whose class is written so.
abbrev pub is_application : List Bool → Option ℕ → Bool
is_application mixed None = true
is_application mixed (Some c) = unwrap_or (slice_get mixed c) false

abbrev pub applications : List Bool → List (Option ℕ) → List Bool
applications mixed classes = map (is_application mixed) classes

abbrev pub first_interface : Option (p.Class Text) → Option Ty
first_interface row = option_and_then (λ (x : p.Class Text). slice_get x.interfaces 0) row

abbrev pub mixin_if : Bool → Option Ty → Option Ty
mixin_if true mixin = mixin
mixin_if false mixin = None

-- the mixin that a row names, which is a mixin application: its first interface
abbrev pub named_mixin : Rows → List Bool → ℕ → Option Ty
named_mixin rows all n = mixin_if (unwrap_or (slice_get all n) false) (first_interface (slice_get rows n))

-- the mixin that the class of a type names, where that is a mixin application, with the arguments of the type put in
abbrev pub next_mixin : Rows → List Bool → Ty → Option Ty
next_mixin rows all (class n given) = option_map (instance given) (named_mixin rows all n)
next_mixin rows all other = None

-- What a class adds to its superclass is its mixin (12 Mixins). One that is a mixin application adds what the mixin that it names adds,
-- and so on. A class stands behind those that its header names, so as many steps as there are rows are enough.
abbrev pub declared_mixin : Rows → List Bool → ℕ → Ty → Ty
declared_mixin rows all zero of = of
declared_mixin rows all (suc steps) of = option_map_or (declared_mixin rows all steps) (next_mixin rows all of) of

abbrev pub mixin_as : Ty → Option Mixin
mixin_as (class n arguments) = Some (record { class = n; arguments = listed arguments })
mixin_as other = None

-- the mixin of a row that is a mixin application: the class that declares what it adds, with type arguments
abbrev pub mixin_at : Rows → List Bool → ℕ → Option Mixin
mixin_at rows all n = option_and_then (λ (of : Ty). mixin_as (declared_mixin rows all (length rows) of)) (named_mixin rows all n)

-- ---- what is added to rows

abbrev pub mixin_number : Option Mixin → Option ℕ
mixin_number None = None
mixin_number (Some mixin) = Some mixin.class

-- the fields of a class are those that it declares, or its mixin does
abbrev pub row_by : List (Option ℕ) → Option ℕ → Option ℕ → Option ℕ → Row
row_by classes own None superclass = record { writes = own; is_application = false; superclass = superclass }
row_by classes own (Some mixin) superclass =
    record { writes = found_at classes mixin; is_application = true; superclass = superclass }

abbrev pub added_row : Rows → List Bool → List (Option ℕ) → ℕ → p.Class Text → Row
added_row rows all classes n row = row_by classes (found_at classes n) (mixin_number (mixin_at rows all n)) (superclass_of row)

-- which rows are mixin applications, and which classes they are, says what counts of them
abbrev pub added_rows : Rows → List Bool → List (Option ℕ) → List Row
added_rows rows all classes = map (λ (x : ℕ × p.Class Text). added_row rows all classes x.0 x.1) (enumerate_from 0 rows)

-- ---- all of it

-- by the number of a declared class its row; by the number of a row the class that is declared so, whether it is a mixin application,
-- how many type parameters it has, and the generative constructors of what is added; by the number of a declaration its native; and the rows of three classes
pub record Index : Type 0 where
  pub rows : List (Option ℕ)
  pub classes : List (Option ℕ)
  pub applications : List Bool
  pub parameters : List ℕ
  pub constructors : List (List Generative)
  pub natives : List (Option NativeId)
  pub int_class : ℕ
  pub string_class : ℕ
  pub map_class : ℕ

-- what the classes of a program are, as they are declared: the numbers of their declarations, whether they are written as mixin
-- applications, and what they write; how many declarations there are, their natives, and the numbers of three classes
pub record Source : Type 0 where
  pub declarations : List ℕ
  pub mixed : List Bool
  pub written : List Written
  pub count : ℕ
  pub natives : List (Option NativeId)
  pub int_class : ℕ
  pub string_class : ℕ
  pub map_class : ℕ

-- Where a class has no row it is the first.
abbrev pub index_by : Source → List (Option ℕ) → List (Option ℕ) → Rows → Index
index_by s declared classes rows = record {
  rows = declared;
  classes = classes;
  applications = applications s.mixed classes;
  parameters = parameter_counts rows;
  constructors = constructors_added s.written s.count (added_rows rows (applications s.mixed classes) classes);
  natives = s.natives;
  int_class = unwrap_or (found_at declared s.int_class) 0;
  string_class = unwrap_or (found_at declared s.string_class) 0;
  map_class = unwrap_or (found_at declared s.map_class) 0;
}

abbrev pub index_of : Source → Rows → Index
index_of s rows = index_by s (rows_declared s.declarations rows) (classes_of s.declarations rows) rows

-- the number at which what is added to each row begins, behind all declarations
abbrev pub starts_of : Source → Rows → List ℕ
starts_of s rows = let classes = classes_of s.declarations rows in
    starts_added s.written s.count (added_rows rows (applications s.mixed classes) classes)
