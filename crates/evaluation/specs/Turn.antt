-- A turn of an isolate as a whole: how it starts, what is printed, and how it ends.
use Rattle.std.specs.Prelude.{ℕ, ◌+◌, List, [], ◌∷◌, ◌++◌, map, Bool, true, false, nat_eq, nat_le, nat_lt, Option, Some, None, codes, decimal, ℤ, pos, negsuc, replicate, length, suc, slice_index_or, cond}
use Rattle.dart_base.specs.declared.place.Place.{Place}
use Rattle.dart_ir.specs.declared.ending.Line.{Line}
use Rattle.dart_ir.specs.declared.kind.ThrowKind.TheVariants.{Error, Exception}
use Rattle.dart_ir.specs.declared.value.Value.{Value}
use Rattle.dart_ir.specs.declared.value.Value.TheVariants.{Null, Bool as Truth, Int, Code}
use Rattle.dart_ir.specs.Integer.{integer_of}
use Rattle.dart_ir.specs.Object.{HeapObject, instance, list, closure, bound}
use Rattle.dart_ir.specs.Ty.{class, nil}
use Rattle.dart_store.specs.Heap.{Heap, cost}
use Rattle.dart_store.specs.declared.store.Static.TheVariants.{Unset}
use Rattle.core_program.specs.Core.{Core, Part}
use Rattle.core_program.specs.Core as c
use Rattle.core_program.specs.Program.{Function, Class, Program}
use Rattle.evaluation.specs.State.{State, Activation, a_function, Port, Note, printed, Event, told, Ending, Completion, throws, ended, Outcome, ends, Meaning, Setting, World}
use Rattle.evaluation.specs.Sequence.{on_answer, entering}
use Rattle.evaluation.specs.Classes.{class_at, function_at, chain}
use Rattle.evaluation.specs.Values.{either, class_of, object_at, units_of, shown_name}
use Rattle.evaluation.specs.Objects.{add}
use Rattle.evaluation.specs.Arguments.{alone, nothing_given, positional_count, parameters_of}
use Rattle.evaluation.specs.Invocation as call

-- ---- how it starts

-- the root's `main`; a function with a message, which a spawn has named; or a handler with a message
pub data Entry : Type 0 where
  main : ℕ → Entry
  start : ℕ → Value → Entry
  handler : Value → Value → Entry

abbrev pub no_place : Place
no_place = record { unit = 0; line = 0; column = 0 }

abbrev pub place_of : Part ℕ → Place
place_of c.missing = no_place
place_of (c.given (c.at place form)) = place

abbrev pub body_place : Option (Function ℕ) → Place
body_place None = no_place
body_place (Some f) = place_of f.body

-- The form that starts a turn has the place of the outermost form of the body of `main`.
abbrev pub start_place : Setting → Place
start_place s = body_place (function_at s.program s.program.main)

abbrev pub takes_argument : Option (Function ℕ) → Bool
takes_argument f = nat_lt 0 (positional_count (parameters_of f))

-- an empty list of strings
abbrev pub no_words : Setting → HeapObject
no_words s = list (class s.known.string_class nil ∷ []) [] false

abbrev pub call_main : Bool → World → ℕ → Meaning
call_main true w f st =
    on_answer (λ words. entering (call.static_call w (start_place w.setting) f (alone words))) (add (no_words w.setting) st)
call_main false w f st = entering (call.static_call w (start_place w.setting) f nothing_given) st

-- A turn starts with a call, which takes its step. `main` is given an empty list where it takes an argument by place.
abbrev pub started : World → Entry → Meaning
started w (main f) st = call_main (takes_argument (function_at w.setting.program f)) w f st
started w (start f v) st = entering (call.static_call w (start_place w.setting) f (alone v)) st
started w (handler g v) st = entering (call.apply w (start_place w.setting) g (alone v)) st

abbrev pub at_rest : Activation
at_rest = record { source = a_function 0; owner = 0; slots = []; this = Null; closure = Null; types = []; caught = None }

-- what an isolate has between turns
pub record Isolate : Type 0 where
  pub left : ℕ
  pub heap : Heap
  pub ports : List Port

abbrev pub begun : Isolate → State
begun i = record { left = i.left; activation = at_rest; heap = i.heap; ports = i.ports; output = []; events = [] }

-- ---- what is shown of a value that nothing caught, without running code

abbrev pub integer_text : ℤ → List ℕ
integer_text (pos n) = decimal n
integer_text (negsuc n) = codes "-" ++ decimal (suc n)

abbrev pub class_text : Setting → Option (Class ℕ) → List ℕ
class_text s None = []
class_text s (Some k) = shown_name s.names k.name

abbrev pub class_name : Setting → Option ℕ → List ℕ
class_name s None = []
class_name s (Some k) = class_text s (class_at s.program k)

abbrev pub is_among : ℕ → List ℕ → Bool
is_among k [] = false
is_among k (d ∷ ds) = either (nat_eq k d) (is_among k ds)

-- its class is `Error`, `Exception` or below one of these, so its first field is the message
abbrev pub has_message : Setting → ℕ → Bool
has_message s k =
    either (is_among (s.known.error_class Error) (chain s.program (Some k)))
    (is_among (s.known.error_class Exception) (chain s.program (Some k)))

abbrev pub after_colon : Option (List ℕ) → List ℕ
after_colon None = []
after_colon (Some units) = codes ": " ++ units

abbrev pub message_of : Setting → Heap → Bool → List Value → List ℕ
message_of s h true fields = after_colon (units_of s h (slice_index_or fields 0 Null))
message_of s h false fields = []

abbrev pub object_text : Setting → Heap → Value → Option HeapObject → List ℕ
object_text s h v (Some (instance k ts fields)) = class_name s (Some k) ++ message_of s h (has_message s k) fields
object_text s h v (Some (closure f receiver ts cells)) = codes "Closure"
object_text s h v (Some (bound receiver m)) = codes "Closure"
object_text s h v object = class_name s (class_of s h v)

abbrev pub string_or_object : Setting → Heap → Value → Option (List ℕ) → List ℕ
string_or_object s h v (Some units) = units
string_or_object s h v None = object_text s h v (object_at h v)

abbrev pub truth_text : Bool → List ℕ
truth_text true = codes "true"
truth_text false = codes "false"

-- A string is itself, a number or boolean its digits or word, an instance its class's name with its message, and another object its
-- class's name.
abbrev pub value_text : Setting → Heap → Value → List ℕ
value_text s h Null = codes "null"
value_text s h (Truth b) = truth_text b
value_text s h (Int high low) = integer_text (integer_of high low)
value_text s h (Code f) = codes "Closure"
value_text s h v = string_or_object s h v (units_of s h v)

-- control characters are blanks
abbrev pub blank : ℕ → ℕ
blank unit = cond (nat_lt unit 32) 32 unit

abbrev pub uncaught_text : Setting → Heap → Value → List ℕ
uncaught_text s h v = map blank (value_text s h v)

-- ---- how it ends

pub data End : Type 0 where
  returned : End
  uncaught : Place → List ℕ → End
  limit : Ending → End

abbrev pub end_of : Setting → Completion → State → End
end_of s (throws v place) st = uncaught place (uncaught_text s st.heap v)
end_of s (ended e) st = limit e
end_of s c st = returned

abbrev pub is_effect : Note → Bool
is_effect (printed units) = false
is_effect note = true

-- the messages and spawns, in order
abbrev pub effects : List Event → List Note
effects [] = []
effects (told note left used ∷ more) = cond (is_effect note) (note ∷ effects more) (effects more)
effects (event ∷ more) = effects more

-- what a turn shows, and what the isolate has afterwards
pub record Turn : Type 0 where
  pub output : List Line
  pub events : List Event
  pub end : End
  pub after : Isolate

abbrev pub turn_of : Setting → Outcome → Turn
turn_of s (ends completion st) = record {
  output = st.output;
  events = st.events;
  end = end_of s completion st;
  after = record { left = st.left; heap = st.heap; ports = st.ports };
}

-- The turn of an isolate that an entry starts.
abbrev pub turn : World → Entry → Isolate → Turn
turn w entry isolate = turn_of w.setting (started w entry (begun isolate))

-- ---- a new isolate

abbrev pub cost_of : List HeapObject → ℕ
cost_of [] = 0
cost_of (object ∷ more) = cost object + cost_of more

-- The first objects are the program's constants, at their cost; none where that passes the limit.
abbrev pub new_heap : Program ℕ → ℕ → Option Heap
new_heap p units =
    cond (nat_le (cost_of p.constants) units)
    (Some (record { objects = p.constants; statics = replicate (length p.statics) Unset; used = cost_of p.constants; limit = units }))
    None

pub record Budget : Type 0 where
  pub steps : ℕ
  pub units : ℕ
  pub depth : ℕ

abbrev pub isolate_with : ℕ → Option Heap → Option Isolate
isolate_with steps None = None
isolate_with steps (Some heap) = Some (record { left = steps; heap = heap; ports = [] })

abbrev pub new_isolate : Program ℕ → Budget → Option Isolate
new_isolate p budget = isolate_with budget.steps (new_heap p budget.units)
