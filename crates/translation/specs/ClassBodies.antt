-- A whole class, and the functions that no declaration writes: implicit accessors and unnamed constructors (ECMA-408, 10.5 Instance
-- Variables, 10.6 Constructors, 14 Generics).
use Rattle.std.specs.Prelude.{ℕ, List, [], ◌∷◌, ◌++◌, map, Option, None, Some, Bool, true, false, ◌||◌, codes, if◌then◌else◌}
use Rattle.dart_base.specs.declared.place.Place.{Place}
use Rattle.dart_tree.specs.Places.{place_of}
use Rattle.dart_tree.specs.Types as y
use Rattle.dart_tree.specs.Unit as u
use Rattle.dart_ir.specs.Ty.{dynamic, function, nil, cons, unnamed}
use Rattle.dart_ir.specs.declared.kind.Shape.TheVariants as shape
use Rattle.dart_ir.specs.declared.kind.SiteKind.TheVariants as kind
use Rattle.dart_ir.specs.declared.value.Value.TheVariants as v
use Rattle.core_program.specs.declared.program.FunctionKind.{FunctionKind}
use Rattle.core_program.specs.declared.program.FunctionKind.TheVariants.{Plain, Generative}
use Rattle.core_program.specs.Core as c
use Rattle.core_program.specs.Program as p
use Rattle.translation.specs.Surroundings.{Text, Ty, Core, Names, Meaning}
use Rattle.translation.specs.Surroundings as m
use Rattle.translation.specs.Walk.{Asked, unasked, Made, State, Walk, went, on, checked, with_site}
use Rattle.translation.specs.Types.{PlacedName, word_of, text_of, type_asked, kept_type}
use Rattle.translation.specs.References.{block, variable, own_name}
use Rattle.translation.specs.Functions as f
use Rattle.translation.specs.Declarations.{standing_in}
use Rattle.translation.specs.Classes as cl
use Rattle.translation.specs.Classes.{Around, Field, Generated, Draft, Parts}

-- ---- the types of a header, in which no alias stands (10.9 Superclasses, 10.10 Superinterfaces, 14 Generics)

abbrev pub kept : y.TypeNode → Walk ℕ
kept node st = on (kept_type node st) (λ typed st. went 0 st)

abbrev pub all_kept : y.TypeList → Walk ℕ
all_kept y.no_more_types st = went 0 st
all_kept (y.type_more comma one more) st = on (kept one st) (λ n st. all_kept more st)

abbrev pub bound_kept : Option u.Bound → Walk ℕ
bound_kept None st = went 0 st
bound_kept (Some x) st = kept x.bound st

abbrev pub bounds_kept : List u.TypeParameter → Walk ℕ
bounds_kept [] st = went 0 st
bounds_kept (x ∷ xs) st = on (bound_kept x.bound st) (λ n st. bounds_kept xs st)

abbrev pub parameters_kept : Option u.TypeParameters → Walk ℕ
parameters_kept None st = went 0 st
parameters_kept (Some x) st = bounds_kept x.items st

abbrev pub clause_kept : Option u.TypeClause → Walk ℕ
clause_kept None st = went 0 st
clause_kept (Some x) st = all_kept x.types st

abbrev pub superclass_kept : Option u.Superclass → Walk ℕ
superclass_kept None st = went 0 st
superclass_kept (Some x) st = on (kept x.superclass st) (λ n st. clause_kept x.mixins st)

-- ---- a class

-- What the functions that are added to a class are made of, and what mixin applications take from it: what names mean inside of it,
-- its members, its fields, their initial values and how many variables these number, and the generative constructors that it writes.
pub record ClassMade : Type 0 where
  pub class : ℕ
  pub names : Names
  pub name : PlacedName
  pub members : List u.Member
  pub fields : List Field
  pub values : List Core
  pub count : ℕ
  pub has_constructor : Bool
  pub constructors : List Generated

abbrev pub is_constructor : u.MemberKind → Bool
is_constructor (u.constructor_member x) = true
is_constructor other = false

abbrev pub has_constructor : List u.Member → Bool
has_constructor [] = false
has_constructor (x ∷ xs) = is_constructor x.kind || has_constructor xs

-- with the initial values of the fields in front
abbrev pub draft_forms : Draft → List Core → List Core
draft_forms x values = (if x.has_values then values else []) ++ x.forms

abbrev pub finished : f.Head → List (p.Parameter Text) → c.Part Text → ℕ → State → Made (p.Function Text)
finished head parameters body count st = record {
  number = head.number;
  made = f.function_made head (record st { variables = count }) parameters body;
}

abbrev pub with_function : Made (p.Function Text) → State → State
with_function x st = record st { functions = st.functions ++ x ∷ [] }

abbrev pub with_drafts : List Core → List Draft → State → State
with_drafts values [] st = st
with_drafts values (x ∷ xs) st = with_drafts values xs
    (with_function (finished x.head x.parameters (c.given (block x.place (draft_forms x values))) x.vars st) st)

-- the names inside of the class, and fresh variables
abbrev pub in_class : {A : Type 0} → Names → Walk A → Walk A
in_class names walk st = on (walk (record st { names = names; variables = 0 }))
    (λ a after. went a (record after { names = st.names; variables = st.variables }))

abbrev pub around_of : ℕ → Option (List Ty) → Text → List u.Member → State → Around
around_of n arguments name members st = record {
  class = n;
  arguments = arguments;
  name = name;
  fields = cl.own_fields st (st.tables.first_field n) members;
  count = 0;
}

abbrev pub counting : Around → List u.Member → State → Around
counting around members st = record around { count = cl.value_count around members st }

abbrev pub around_in : ℕ → Option (List Ty) → Text → List u.Member → State → Around
around_in n arguments name members st = counting (around_of n arguments name members
    (standing_in (record { class = Some n; arguments = arguments; has_instance = false }) st)) members st

abbrev pub generated : Draft → Generated
generated x = record { number = x.head.number; id = x.id; parameters = x.parameters }

abbrev pub class_made : Around → PlacedName → List u.Member → Parts → Walk ClassMade
class_made around name members parts st = went (record {
  class = around.class;
  names = st.names;
  name = name;
  members = members;
  fields = around.fields;
  values = parts.values;
  count = around.count;
  has_constructor = has_constructor members;
  constructors = map generated parts.drafts;
}) (with_drafts parts.values parts.drafts st)

abbrev pub members_made : Around → PlacedName → List u.Member → Walk ClassMade
members_made around name members st = on (cl.all_members around members members st) (class_made around name members)

-- the members, where the superclass has the constructor that is called where none is written
abbrev pub class_members : ℕ → PlacedName → List u.Member → Walk ClassMade
class_members n name members st = members_made (around_in n None name.text members st) name members st

-- a class that is written as a mixin application: it declares nothing, a constructor neither
abbrev pub without_members : ℕ → PlacedName → Walk ClassMade
without_members n name st = went (record {
  class = n;
  names = st.names;
  name = name;
  members = [];
  fields = [];
  values = [];
  count = 0;
  has_constructor = true;
  constructors = [];
}) st

abbrev pub class_kind : ℕ → PlacedName → u.ClassKind → Walk ClassMade
class_kind n name (u.declared_class above interfaces opening members closing) st =
    on (superclass_kept above st) (λ k st. on (clause_kept interfaces st) (λ k st. class_members n name members st))
class_kind n name (u.mixed_class equals above mixins interfaces semicolon) st =
    on (kept above st) (λ k st. on (clause_kept (Some mixins) st) (λ k st. on (clause_kept interfaces st)
    (λ k st. without_members n name st)))

abbrev pub members_of : u.ClassKind → List u.Member
members_of (u.declared_class above interfaces opening members closing) = members
members_of (u.mixed_class equals above mixins interfaces semicolon) = []

abbrev pub is_mixed : u.ClassKind → Bool
is_mixed (u.declared_class above interfaces opening members closing) = false
is_mixed (u.mixed_class equals above mixins interfaces semicolon) = true

-- where a class declares no constructor, its unnamed one calls that of the superclass
abbrev pub unnamed_kept : ℕ → Place → u.ClassKind → Walk (List Core)
unnamed_kept n place x st = cl.implicit_super (has_constructor (members_of x) || is_mixed x) place (st.tables.superclass n) st

abbrev pub class_inside : ℕ → u.Class → Walk ClassMade
class_inside n x st = on (unnamed_kept n (place_of x.name) x.kind st) (λ forms st. on (parameters_kept x.parameters st)
    (λ k st. class_kind n (word_of x.name) x.kind st))

abbrev pub class_number : Meaning → ℕ
class_number (m.class n) = n
class_number other = 0

abbrev pub class_declared : u.Class → Walk ClassMade
class_declared x st = on (f.numbered st) (λ k st. in_class (st.tables.class_names (class_number (st.names.meaning (text_of x.name))))
    (class_inside (class_number (st.names.meaning (text_of x.name))) x) st)

-- ---- what is added to a class: implicit accessors, and then an unnamed constructor

abbrev pub added_head : ℕ → FunctionKind → Text → Ty → ℕ → f.Head
added_head number kind name signature n = record {
  number = number;
  kind = kind;
  name = name;
  signature = signature;
  inside = record {
    class = Some n;
    arguments = None;
    has_instance = true;
    result = unasked;
    gives_value = true;
    in_handler = false;
  };
}

-- the type that an annotation wrote
abbrev pub annotated_type : Asked → Ty
annotated_type asked = if asked.annotated then type_asked asked else dynamic

abbrev pub getter_type : Asked → Ty
getter_type asked = function (annotated_type asked) nil nil unnamed

abbrev pub setter_type : Asked → Ty
setter_type asked = function dynamic (cons (annotated_type asked) nil) nil unnamed

abbrev pub add : ℕ → f.Head → List (p.Parameter Text) → Core → Walk ℕ
add count head parameters form st = went 0 (with_function (finished head parameters (c.given form) count st) st)

-- the body is Field i
abbrev pub getter_added : ℕ → Field → Walk ℕ
getter_added n x st = on (f.numbered st) (λ k st. add 0 (added_head k Plain (own_name x.name st) (getter_type x.asked) n) []
    (c.at x.name.place (c.leaf (c.field x.index))) st)

abbrev pub setter_parameter : ℕ → p.Parameter Text
setter_parameter site = record { var = 0; name = codes "v"; shape = shape.Required; default = v.Null; site = site }

-- the body is FieldWrite(i, Check(FieldStore, Read v)), and v is asked for nothing
abbrev pub setter_made : ℕ → Field → ℕ → Walk ℕ
setter_made n x k st = on (with_site kind.Param x.name.place unasked st) (λ site st.
    on (checked kind.FieldStore x.name.place x.asked (variable x.name.place 0) st) (λ form st.
    add 1 (added_head k Plain (own_name x.name st) (setter_type x.asked) n) (setter_parameter site ∷ [])
    (cl.field_write x.name.place x.index form) st))

abbrev pub setter_added : Bool → ℕ → Field → Walk ℕ
setter_added true n x st = went 0 st
setter_added false n x st = on (f.numbered st) (setter_made n x)

abbrev pub accessors_added : ℕ → List Field → Walk ℕ
accessors_added n [] st = went 0 st
accessors_added n (x ∷ xs) st = on (getter_added n x st) (λ k st. on (setter_added x.is_final n x st) (λ k st. accessors_added n xs st))

abbrev pub unnamed_added : ClassMade → ℕ → Walk (List Generated)
unnamed_added x k st = on (cl.implicit_super false x.name.place (st.tables.superclass x.class) st) (λ forms st.
    on (add x.count (added_head k Generative (own_name x.name st) (function dynamic nil nil unnamed) x.class) []
    (block x.name.place (x.values ++ forms)) st) (λ j st. went (record { number = k; id = []; parameters = [] } ∷ []) st))

abbrev pub constructor_added : Bool → ClassMade → Walk (List Generated)
constructor_added true x st = went x.constructors st
constructor_added false x st = on (f.numbered st) (unnamed_added x)

-- The answer is the generative constructors of the class.
abbrev pub class_added : ClassMade → Walk (List Generated)
class_added x st = in_class x.names
    (λ st. on (accessors_added x.class x.fields st) (λ k st. constructor_added x.has_constructor x st)) st
