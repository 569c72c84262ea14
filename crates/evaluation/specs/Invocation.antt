-- Calls of functions and members (ECMA-408, 16.14 Function Invocation, 16.15 Method Lookup, 16.17 Method Invocation, 16.18 Property
-- Extraction, 16.19 Assignment, 16.24 Equality).
use Rattle.std.specs.Prelude.{ℕ, zero, suc, ◌-◌, pos, List, [], ◌∷◌, ◌++◌, map, Bool, true, false, Option, Some, None}
use Rattle.dart_base.specs.declared.place.Place.{Place}
use Rattle.dart_ir.specs.declared.class.Role.{Role}
use Rattle.dart_ir.specs.declared.class.Role.TheVariants.{Method, Getter, Setter}
use Rattle.dart_ir.specs.declared.kind.ThrowKind.TheVariants.{NoSuchMethodError}
use Rattle.dart_ir.specs.declared.value.Value.{Value}
use Rattle.dart_ir.specs.declared.value.Value.TheVariants.{Null, Bool as Truth, Code}
use Rattle.dart_ir.specs.Integer.{integer_value}
use Rattle.dart_ir.specs.Object.{HeapObject, instance, list, text, closure, bound}
use Rattle.dart_ir.specs.Ty.{dynamic}
use Rattle.dart_store.specs.Heap.{Heap}
use Rattle.core_program.specs.Program.{Function, Program}
use Rattle.evaluation.specs.State.{answer, throws, ended, out_of_steps, out_of_objects, Outcome, ends, Meaning, Setting, World, Given, Callee}
use Rattle.evaluation.specs.Sequence.{on_answer, on_answers, chosen}
use Rattle.evaluation.specs.Classes.{member, member_at, function_at, member_function, member_owner}
use Rattle.evaluation.specs.Values.{object_at, class_of, shown_name, ending_in, in_prelude}
use Rattle.evaluation.specs.Objects.{add, throw_named}
use Rattle.evaluation.specs.Arguments.{fits, alone, nothing_given, placed, named_values}
use Rattle.evaluation.specs.Parts.{is_given}

-- ---- entering a body

abbrev pub moved : Bool → Bool → Place → Place → Place
moved true false at place = at
moved thrown_in_prelude calls_in_prelude at place = place

-- As a throw leaves a call in a user's file, a place in the prelude is replaced by the call's.
abbrev pub leaving : Place → Outcome → Outcome
leaving at (ends (throws v place) st) = ends (throws v (moved (in_prelude place) (in_prelude at) at place)) st
leaving at (ends c st) = ends c st

-- the body of a function, called at the place
abbrev pub called : World → Place → ℕ → Callee → Given → Meaning
called w at f callee g st = leaving at (w.calls f callee g st)

-- a function that has no receiver
abbrev pub plain : Callee
plain = record { this = Null; owner = 0; closure = Null; types = [] }

abbrev pub receiving : Value → ℕ → Callee
receiving this owner = record { this = this; owner = owner; closure = Null; types = [] }

-- A static or library function; where what is given doesn't fit, an error tells its name (16.14.3 Unqualified Invocation).
abbrev pub name_of : Option (Function ℕ) → ℕ
name_of None = 0
name_of (Some f) = f.name

abbrev pub static_call : World → Place → ℕ → Given → Meaning
static_call w at f g =
    chosen (fits (function_at w.setting.program f) g) (called w at f plain g)
    (throw_named w.setting at NoSuchMethodError (name_of (function_at w.setting.program f)) false)

-- a member that was found, on its receiver
abbrev pub member_call : World → Place → ℕ → Value → Given → Meaning
member_call w at m this g =
    called w at (member_function (member_at w.setting.program m))
    (receiving this (member_owner (member_at w.setting.program m))) g

abbrev pub member_fits : Program ℕ → ℕ → Given → Bool
member_fits p m g = fits (function_at p (member_function (member_at p m))) g

-- ---- noSuchMethod (16.17.1 Method Lookup, 16.18.1 Getter Access, 16.19)

abbrev pub is_setter : Role → Bool
is_setter Setter = true
is_setter role = false

-- what an Invocation tells of the kind of access
abbrev pub role_number : Role → ℕ
role_number Method = 0
role_number Getter = 1
role_number Setter = 2

-- a growable list of dynamic items
abbrev pub list_of : List Value → HeapObject
list_of items = list (dynamic ∷ []) items false

-- A string that tells a name.
abbrev pub name_string : Setting → ℕ → Meaning
name_string s name = add (text (shown_name s.names name))

-- the list of the names that arguments go by
abbrev pub names_list : Setting → Given → Meaning
names_list s g st = on_answers (λ names. add (list_of names)) (map (name_string s) g.names) [] st

-- the member's name, the values by place, the names of the others, and these others
abbrev pub invocation_parts : Setting → Role → ℕ → Given → List Meaning
invocation_parts s role name g =
    add (text (ending_in (is_setter role) (shown_name s.names name))) ∷ add (list_of (placed g))
    ∷ names_list s g ∷ add (list_of (named_values g)) ∷ []

abbrev pub invocation_object : Setting → Role → List Value → HeapObject
invocation_object s role parts =
    instance s.known.invocation_class [] (parts ++ integer_value (pos (role_number role)) ∷ [])

-- The Invocation. What it holds is made first, in the order of its fields; the last of them is the kind.
abbrev pub invocation : Setting → Role → ℕ → Given → Meaning
invocation s role name g st =
    on_answers (λ parts. add (invocation_object s role parts)) (invocation_parts s role name g) [] st

-- noSuchMethod is called with the Invocation, looked up from class c.
abbrev pub told : World → Place → Option ℕ → Value → (Value → Meaning) → Value → Meaning
told w at None this again i st = ends (answer Null) st
told w at (Some m) this again i st =
    chosen (member_fits w.setting.program m (alone i)) (member_call w at m this (alone i)) (again i) st

-- One that doesn't take an argument alone is called for in its turn, with an Invocation for itself, until the units are used up: each
-- round adds an object.
abbrev pub missing_within : ℕ → World → Place → Option ℕ → Role → ℕ → Value → Given → Meaning
missing_within zero w at c role name this g st = ends (ended out_of_objects) st
missing_within (suc n) w at c role name this g st =
    on_answer (told w at (member w.setting.program c w.setting.known.no_such_method Method) this
    (λ i. missing_within n w at c Method w.setting.known.no_such_method this (alone i)))
    (invocation w.setting role name g st)

-- A member that isn't there, or that what is given doesn't fit, of an object seen as of class c.
abbrev pub missing_from : World → Place → Option ℕ → Role → ℕ → Value → Given → Meaning
missing_from w at c role name this g st =
    missing_within (suc (st.heap.limit - st.heap.used)) w at c role name this g st

abbrev pub missing : World → Place → Role → ℕ → Value → Given → Meaning
missing w at role name this g st = missing_from w at (class_of w.setting st.heap this) role name this g st

-- a member where what is given fits it, looked up from class c
abbrev pub fitting : World → Place → Option ℕ → Role → ℕ → Value → Given → ℕ → Meaning
fitting w at c role name this g m =
    chosen (member_fits w.setting.program m g) (member_call w at m this g) (missing_from w at c role name this g)

-- ---- calling a value (16.14.4 Function Expression Invocation)

-- a value as what is called
pub data Callable : Type 0 where
  a_code : ℕ → Callable
  a_closure : ℕ → Value → Callable
  a_method : ℕ → Value → Callable
  an_object : Callable

abbrev pub callable_in : Option HeapObject → Callable
callable_in (Some (closure f receiver ts cells)) = a_closure f receiver
callable_in (Some (bound receiver m)) = a_method m receiver
callable_in object = an_object

abbrev pub callable : Heap → Value → Callable
callable h (Code f) = a_code f.0
callable h v = callable_in (object_at h v)

-- a function value where what is given fits it, else noSuchMethod of the function value
abbrev pub function_call : World → Place → Value → ℕ → Callee → Given → Meaning
function_call w at v f callee g =
    chosen (fits (function_at w.setting.program f) g) (called w at f callee g)
    (missing w at Method w.setting.known.call v g)

abbrev pub has_body : Option (Function ℕ) → Bool
has_body None = false
has_body (Some f) = is_given f.body

abbrev pub getter_has_body : Program ℕ → ℕ → Bool
getter_has_body p m = has_body (function_at p (member_function (member_at p m)))

-- an object's method `call`, else what its getter `call` answers, which is called in its turn
abbrev pub object_call : World → Place → Value → Given → (Value → Meaning) → Option ℕ → Option ℕ → Meaning
object_call w at v g again (Some m) getter st =
    chosen (member_fits w.setting.program m g) (member_call w at m v g) (missing w at Method w.setting.known.call v g) st
object_call w at v g again None (Some m) st =
    chosen (getter_has_body w.setting.program m) (λ st. on_answer again (member_call w at m v nothing_given st))
    (missing w at Method w.setting.known.call v g) st
object_call w at v g again None None st = missing w at Method w.setting.known.call v g st

abbrev pub applied : World → Place → Value → Given → (Value → Meaning) → Callable → Meaning
applied w at v g again (a_code f) st = function_call w at v f plain g st
applied w at v g again (a_closure f receiver) st =
    function_call w at v f (record { this = receiver; owner = 0; closure = v; types = [] }) g st
applied w at v g again (a_method m receiver) st =
    function_call w at v (member_function (member_at w.setting.program m))
    (receiving receiver (member_owner (member_at w.setting.program m))) g st
applied w at v g again an_object st =
    object_call w at v g again (member w.setting.program (class_of w.setting st.heap v) w.setting.known.call Method)
    (member w.setting.program (class_of w.setting st.heap v) w.setting.known.call Getter) st

abbrev pub apply_within : ℕ → World → Place → Given → Value → Meaning
apply_within zero w at g v st = ends (ended out_of_steps) (record st { left = 0 })
apply_within (suc n) w at g v st = applied w at v g (apply_within n w at g) (callable st.heap v) st

-- A value is called. The body of each getter `call` takes a step, so no more of them are called than steps are left.
abbrev pub apply : World → Place → Value → Given → Meaning
apply w at v g st = apply_within (suc (suc st.left)) w at g v st

-- ---- members of an object seen as of class c (16.17 Method Invocation, 16.17.3 Super Invocation)

-- a method, else a getter whose value is called, else noSuchMethod
abbrev pub sent : World → Place → Option ℕ → ℕ → Value → Given → Option ℕ → Option ℕ → Meaning
sent w at c name this g (Some m) getter st = fitting w at c Method name this g m st
sent w at c name this g None (Some m) st = on_answer (λ v. apply w at v g) (member_call w at m this nothing_given st)
sent w at c name this g None None st = missing_from w at c Method name this g st

abbrev pub send_from : World → Place → Option ℕ → ℕ → Value → Given → Meaning
send_from w at c name this g =
    sent w at c name this g (member w.setting.program c name Method) (member w.setting.program c name Getter)

abbrev pub send : World → Place → ℕ → Value → Given → Meaning
send w at name this g st = send_from w at (class_of w.setting st.heap this) name this g st

-- a method is taken off, else a getter's value (16.18 Property Extraction)
abbrev pub got : World → Place → Option ℕ → ℕ → Value → Option ℕ → Option ℕ → Meaning
got w at c name this (Some m) getter st = add (bound this m) st
got w at c name this None (Some m) st = member_call w at m this nothing_given st
got w at c name this None None st = missing_from w at c Getter name this nothing_given st

abbrev pub get_from : World → Place → Option ℕ → ℕ → Value → Meaning
get_from w at c name this =
    got w at c name this (member w.setting.program c name Method) (member w.setting.program c name Getter)

abbrev pub get : World → Place → ℕ → Value → Meaning
get w at name this st = get_from w at (class_of w.setting st.heap this) name this st

-- a setter (16.19 Assignment)
abbrev pub setting : World → Place → Option ℕ → ℕ → Value → Value → Option ℕ → Meaning
setting w at c name this v (Some m) st = fitting w at c Setter name this (alone v) m st
setting w at c name this v None st = missing_from w at c Setter name this (alone v) st

-- the answer is the value written
abbrev pub set_from : World → Place → Option ℕ → ℕ → Value → Value → Meaning
set_from w at c name this v st =
    on_answer (λ _ st. ends (answer v) st) (setting w at c name this v (member w.setting.program c name Setter) st)

abbrev pub set : World → Place → ℕ → Value → Value → Meaning
set w at name this v st = set_from w at (class_of w.setting st.heap this) name this v st

-- Identity where either is null, else a call of `==` (16.24 Equality).
abbrev pub equal : World → Place → Value → Value → Meaning
equal w at Null Null st = ends (answer (Truth true)) st
equal w at Null u st = ends (answer (Truth false)) st
equal w at v Null st = ends (answer (Truth false)) st
equal w at v u st = send w at w.setting.known.equals v (alone u) st
