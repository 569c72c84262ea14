-- The type that a value has, and its text.
use Rattle.std.specs.Prelude.{ℕ, List, [], ◌∷◌, ◌++◌, codes, slice_get, Option, Some, None, unwrap_or, Bool, true, false, ◌&&◌, ◌==◌, if◌then◌else◌}
use Rattle.std.specs.Fmt.{signed_decimal}
use Rattle.dart_ir.specs.declared.class.ClassInfo.{ClassInfo}
use Rattle.dart_ir.specs.declared.value.Value.{Value}
use Rattle.dart_ir.specs.declared.value.Value.TheVariants as v
use Rattle.dart_ir.specs.Integer.{integer_of}
use Rattle.dart_ir.specs.Object.{HeapObject, instance, list, text, closure, bound, type_value, send_port, receive_port, cell}
use Rattle.dart_ir.specs.Ty.{Ty, Tys, dynamic, bottom, void, class, parameter, function, nil, cons, of_list}
use Rattle.dart_store.specs.Heap.{Heap}
use Rattle.native_base.specs.Plan.{Plan, makes, value}
use Rattle.native_object.specs.declared.known.KnownClasses.{KnownClasses}

-- What natives read of a program: its string literals, the texts of its names, the name of each class, and the classes
-- of the prelude.
pub record Around : Type 0 where
  pub literals : List (List ℕ)
  pub names : List (List ℕ)
  pub class_names : List ℕ
  pub known : KnownClasses

-- ---- types

-- a class without type arguments
abbrev pub plain : ℕ → Ty
plain c = class c nil

abbrev pub object_type : KnownClasses → Option HeapObject → Ty
object_type k (Some (instance c args fields)) = class c (of_list args)
object_type k (Some (list args items fixed)) = class k.list.0 (of_list args)
object_type k (Some (text units)) = plain k.string.0
object_type k (Some (closure f receiver args cells)) = plain k.function.0
object_type k (Some (bound receiver m)) = plain k.function.0
object_type k (Some (type_value t)) = plain k.type_class.0
object_type k (Some (send_port isolate port)) = plain k.send_port.0
object_type k (Some (receive_port port)) = plain k.receive_port.0
object_type k o = plain k.null.0

-- the type of a value; that of each function is `Function`
abbrev pub type_of : KnownClasses → Heap → Value → Ty
type_of k h v.Null = plain k.null.0
type_of k h (v.Bool b) = plain k.boolean.0
type_of k h (v.Int high low) = plain k.integer.0
type_of k h (v.Literal i) = plain k.string.0
type_of k h (v.Code f) = plain k.function.0
type_of k h (v.At r) = object_type k (slice_get h.objects r.0)

-- ---- texts

-- a name as it is shown: that of a private one without `@` and the number of its library
abbrev pub before_mark : List ℕ → List ℕ
before_mark [] = []
before_mark (u ∷ us) = if u == 64 then [] else u ∷ before_mark us

abbrev pub name_text : List (List ℕ) → Option ℕ → List ℕ
name_text names None = []
name_text names (Some n) = before_mark (unwrap_or (slice_get names n) [])

-- the number of a class's name
abbrev pub name_number : ClassInfo → ℕ
name_number info = info.name.0

abbrev pub class_text : Around → ℕ → List ℕ
class_text a c = name_text a.names (slice_get a.class_names c)

abbrev pub is_dynamic : Ty → Bool
is_dynamic dynamic = true
is_dynamic t = false

abbrev pub all_dynamic : Tys → Bool
all_dynamic nil = true
all_dynamic (cons t ts) = is_dynamic t && all_dynamic ts

abbrev pub unless_dynamic : Tys → List ℕ → List ℕ
unless_dynamic ts shown = if all_dynamic ts then [] else shown

-- a class as its name, with its type arguments where not all of them are dynamic
abbrev mutual
  pub type_text : Around → Ty → List ℕ
  type_text a dynamic = codes "dynamic"
  type_text a bottom = codes "Null"
  type_text a void = codes "void"
  type_text a (class c ts) = class_text a c ++ unless_dynamic ts (types_text a (codes "<") ts ++ codes ">")
  type_text a (parameter i) = codes "dynamic"
  type_text a (function r q o n) = codes "Function"

  -- each behind a text: the first behind this one, and the others behind `, `
  pub types_text : Around → List ℕ → Tys → List ℕ
  types_text a before nil = []
  types_text a before (cons t ts) = before ++ type_text a t ++ types_text a (codes ", ") ts

abbrev pub new_text : List ℕ → Plan
new_text units = makes (text units)

abbrev pub instance_text : Around → ℕ → Plan
instance_text a c = new_text (codes "Instance of '" ++ class_text a c ++ codes "'")

abbrev pub bool_text : Bool → List ℕ
bool_text true = codes "true"
bool_text false = codes "false"

abbrev pub object_text : Around → Value → Option HeapObject → Plan
object_text a x (Some (text units)) = value x
object_text a x (Some (closure f receiver args cells)) = new_text (codes "Closure")
object_text a x (Some (bound receiver m)) = new_text (codes "Closure")
object_text a x (Some (type_value t)) = new_text (type_text a t)
object_text a x (Some (instance c args fields)) = instance_text a c
object_text a x (Some (list args items fixed)) = instance_text a a.known.list.0
object_text a x (Some (send_port isolate port)) = instance_text a a.known.send_port.0
object_text a x (Some (receive_port port)) = instance_text a a.known.receive_port.0
object_text a x o = instance_text a a.known.null.0

-- what `toString` of `Object` answers: a string is its own text
abbrev pub text_of_value : Around → Heap → Value → Plan
text_of_value a h v.Null = new_text (codes "null")
text_of_value a h (v.Bool b) = new_text (bool_text b)
text_of_value a h (v.Int high low) = new_text (signed_decimal (integer_of high low))
text_of_value a h (v.Literal i) = value (v.Literal i)
text_of_value a h (v.Code f) = new_text (codes "Closure")
text_of_value a h (v.At r) = object_text a (v.At r) (slice_get h.objects r.0)
