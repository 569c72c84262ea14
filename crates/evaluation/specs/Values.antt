-- What values are: their classes, their types as a test sees them, the texts of strings, and which are identical
-- (ECMA-408, 16.15.1 Object Identity, 16.34 Type Test, 19.1 Static Types).
use Rattle.std.specs.Prelude.{ℕ, List, [], ◌++◌, Bool, true, false, ◌&&◌, nat_eq, Option, Some, None, codes, slice_get, take_while, not, bytes_eq, unwrap_or}
use Rattle.dart_base.specs.declared.place.Place.{Place}
use Rattle.dart_ir.specs.declared.value.Value.{Value}
use Rattle.dart_ir.specs.declared.value.Value.TheVariants.{Null, Bool as Truth, Int, Literal, Code, At}
use Rattle.dart_ir.specs.Object.{HeapObject, instance, list, text, closure, bound, type_value, send_port, receive_port, HeadTy, null, of, function}
use Rattle.dart_ir.specs.Ty.{Ty, class, nil, of_list}
use Rattle.dart_store.specs.Heap.{Heap}
use Rattle.core_program.specs.declared.program.FunctionKind.TheVariants as kind
use Rattle.core_program.specs.declared.program.FunctionKind.{FunctionKind}
use Rattle.evaluation.specs.State.{Known, Setting, Now, Activation, Source, a_function, an_initialiser}
use Rattle.evaluation.specs.Classes.{function_at, member_at, member_function, member_owner, class_of_function, kind_of_function, arguments_at, type_list}

-- the value that names the object of the number
abbrev pub object_value : ℕ → Value
object_value r = At (record { 0 = r })

-- the object that a value names
abbrev pub object_at : Heap → Value → Option HeapObject
object_at h (At r) = slice_get h.objects r.0
object_at h v = None

-- ---- classes and heads

-- what an object is before type arguments of functions are known
abbrev pub object_type : Setting → Option HeapObject → Option Ty
object_type s (Some (instance c ts fields)) = Some (class c (of_list ts))
object_type s (Some (list ts items fixed)) = Some (class s.known.list_class (of_list ts))
object_type s (Some (text units)) = Some (class s.known.string_class nil)
object_type s (Some (closure f receiver ts cells)) = Some (class s.program.function_class nil)
object_type s (Some (bound receiver m)) = Some (class s.program.function_class nil)
object_type s (Some (type_value t)) = Some (class s.known.type_class nil)
object_type s (Some (send_port i port)) = Some (class s.known.send_port_class nil)
object_type s (Some (receive_port port)) = Some (class s.known.receive_port_class nil)
object_type s object = None

-- The type of a value that isn't null. That of every function is `Function`.
abbrev pub value_type : Setting → Heap → Value → Option Ty
value_type s h Null = None
value_type s h (Truth b) = Some (class s.known.bool_class nil)
value_type s h (Int high low) = Some (class s.known.int_class nil)
value_type s h (Literal n) = Some (class s.known.string_class nil)
value_type s h (Code f) = Some (class s.program.function_class nil)
value_type s h (At r) = object_type s (slice_get h.objects r.0)

abbrev pub class_in : Known → Option Ty → Option ℕ
class_in k (Some (class c ts)) = Some c
class_in k t = Some k.null_class

-- the class whose members a value has
abbrev pub class_of : Setting → Heap → Value → Option ℕ
class_of s h v = class_in s.known (value_type s h v)

-- the type arguments that a receiver has for a function that is found at the owner
abbrev pub receiver_arguments : Setting → Heap → Value → ℕ → Option ℕ → List Ty
receiver_arguments s h this owner None = []
receiver_arguments s h this owner (Some c) = arguments_at s.program owner c (value_type s h this)

abbrev pub method_head : Setting → Heap → Value → ℕ → ℕ → HeadTy
method_head s h receiver owner f =
    function f (receiver_arguments s h receiver owner (class_of_function (function_at s.program f)))

abbrev pub head_in : Option Ty → HeadTy
head_in (Some (class c ts)) = of c (type_list ts)
head_in t = null

abbrev pub object_head : Setting → Heap → Option HeapObject → HeadTy
object_head s h (Some (closure f receiver ts cells)) = function f ts
object_head s h (Some (bound receiver m)) =
    method_head s h receiver (member_owner (member_at s.program m)) (member_function (member_at s.program m))
object_head s h object = head_in (object_type s object)

-- What a test of a site looks at: null; the class with its type arguments; or the function with the type arguments that its
-- closure or its receiver has for its signature.
abbrev pub head_of : Setting → Heap → Value → HeadTy
head_of s h (Code f) = function f.0 []
head_of s h (At r) = object_head s h (slice_get h.objects r.0)
head_of s h v = head_in (value_type s h v)

-- ---- type arguments in scope

abbrev pub closure_arguments : Option HeapObject → List Ty
closure_arguments (Some (closure f receiver ts cells)) = ts
closure_arguments object = []

-- Those of the closure, of the `new` that a factory answers, or of `this` at the class that declares the function.
abbrev pub arguments_of_kind : Setting → Heap → Activation → Option ℕ → FunctionKind → List Ty
arguments_of_kind s h a None k = []
arguments_of_kind s h a (Some c) kind.Inner = closure_arguments (object_at h a.closure)
arguments_of_kind s h a (Some c) kind.Factory = a.types
arguments_of_kind s h a (Some c) k = receiver_arguments s h a.this a.owner (Some c)

abbrev pub arguments_of_source : Setting → Heap → Activation → Source → List Ty
arguments_of_source s h a (an_initialiser d) = []
arguments_of_source s h a (a_function f) =
    arguments_of_kind s h a (class_of_function (function_at s.program f)) (kind_of_function (function_at s.program f))

-- the type arguments in scope
abbrev pub arguments_here : Setting → Now → List Ty
arguments_here s n = arguments_of_source s n.heap n.activation n.activation.source

-- ---- strings

abbrev pub object_units : Option HeapObject → Option (List ℕ)
object_units (Some (text units)) = Some units
object_units object = None

-- the units of a string
abbrev pub units_of : Setting → Heap → Value → Option (List ℕ)
units_of s h (Literal n) = slice_get s.program.literals n
units_of s h (At r) = object_units (slice_get h.objects r.0)
units_of s h v = None

abbrev pub name_text : List (List ℕ) → ℕ → List ℕ
name_text names n = unwrap_or (slice_get names n) []

-- a name as it is shown: without the mark of the library to which it is private
abbrev pub shown_name : List (List ℕ) → ℕ → List ℕ
shown_name names n = take_while (λ unit. not (nat_eq unit 64)) (name_text names n)

abbrev pub ending_in : Bool → List ℕ → List ℕ
ending_in true units = units ++ codes "="
ending_in false units = units

-- ---- identity, as the cases of a switch compare

abbrev pub both_texts : Option (List ℕ) → Option (List ℕ) → Bool
both_texts (Some x) (Some y) = bytes_eq x y
both_texts x y = false

abbrev pub is_reference : Value → Value → Bool
is_reference (At r) (At q) = nat_eq r.0 q.0
is_reference v u = false

abbrev pub same_truth : Bool → Bool → Bool
same_truth true b = b
same_truth false b = not b

abbrev pub either : Bool → Bool → Bool
either true b = true
either false b = b

-- Null, bools, ints and strings by value, and another object where it is the same.
abbrev pub is_same : Setting → Heap → Value → Value → Bool
is_same s h Null Null = true
is_same s h (Truth b) (Truth d) = same_truth b d
is_same s h (Int high low) (Int other_high other_low) = nat_eq high other_high && nat_eq low other_low
is_same s h (Code f) (Code g) = nat_eq f.0 g.0
is_same s h v u = either (is_reference v u) (both_texts (units_of s h v) (units_of s h u))

-- ---- places

-- Whether it lies in a file of the prelude: the root is unit 0, `dart:core` unit 1 and `dart:isolate` unit 2.
abbrev pub in_prelude : Place → Bool
in_prelude place = either (nat_eq place.unit 1) (nat_eq place.unit 2)
