-- External functions: natives, what is printed, and ports (ECMA-408, 9.4 External Functions).
use Rattle.std.specs.Prelude.{ℕ, ◌-◌, List, [], ◌∷◌, ◌++◌, length, true, false, Option, Some, None, slice_get, slice_index_or, slice_set}
use Rattle.dart_base.specs.declared.place.Place.{Place}
use Rattle.dart_ir.specs.declared.ending.Line.TheVariants.{Printed}
use Rattle.dart_ir.specs.declared.kind.ThrowKind.TheVariants.{ArgumentError}
use Rattle.dart_ir.specs.declared.native.Answer.{Answer}
use Rattle.dart_ir.specs.declared.native.Answer.TheVariants as a
use Rattle.dart_ir.specs.declared.native.NativeId.{NativeId}
use Rattle.dart_ir.specs.declared.native.NativeId.TheVariants as n
use Rattle.dart_ir.specs.declared.value.Value.{Value}
use Rattle.dart_ir.specs.declared.value.Value.TheVariants.{Null, Code}
use Rattle.dart_ir.specs.Object.{HeapObject, send_port, receive_port}
use Rattle.dart_ir.specs.Ty.{Ty}
use Rattle.dart_store.specs.Heap.{Heap}
use Rattle.evaluation.specs.State.{Port, Note, printed, sent, spawned, told, with_event, with_line, answer, ended, out_of_objects, integer_limit, needs_double, ends, Meaning, Natives, NativeEnd, gives, full, Setting}
use Rattle.evaluation.specs.Sequence.{on_answer, taking}
use Rattle.evaluation.specs.Values.{object_at, units_of}
use Rattle.evaluation.specs.Objects.{add, throw_new}

-- ---- what others see of the turn

-- a note is taken, with the steps left and the units used, and then comes what follows
abbrev pub noted : Note → Meaning → Meaning
noted (printed units) next st = next (with_event (with_line st (Printed units)) (told (printed units)))
noted note next st = next (with_event st (told note))

abbrev pub wrong_argument : Setting → Place → Meaning
wrong_argument s at = throw_new s.known at ArgumentError Null

abbrev pub print_units : Setting → Place → Option (List ℕ) → Meaning
print_units s at (Some units) st = noted (printed units) (λ st. ends (answer Null) st) st
print_units s at None st = wrong_argument s at st

-- ---- ports

abbrev pub argument : List Value → ℕ → Value
argument vs i = slice_index_or vs i Null

abbrev pub with_ports : List Port → Meaning → Meaning
with_ports ports next st = next (record st { ports = ports })

abbrev pub a_port : Port
a_port = record { is_open = true; handler = None }

-- a port that is open and has no handler yet
abbrev pub new_port : Meaning
new_port st =
    on_answer (λ v st. with_ports (st.ports ++ a_port ∷ []) (λ st. ends (answer v) st) st)
    (add (receive_port (length st.ports)) st)

abbrev pub port_of : Option HeapObject → Option ℕ
port_of (Some (receive_port port)) = Some port
port_of object = None

abbrev pub put_port : List Port → ℕ → Option Port → List Port
put_port ports i None = ports
put_port ports i (Some port) = slice_set ports i port

abbrev pub with_handler : Value → Option Port → Option Port
with_handler f None = None
with_handler f (Some port) = Some (record port { handler = Some f })

abbrev pub closed_port : Option Port → Option Port
closed_port None = None
closed_port (Some port) = Some (record port { is_open = false })

abbrev pub changed_port : (Option Port → Option Port) → ℕ → Meaning
changed_port change i st =
    with_ports (put_port st.ports i (change (slice_get st.ports i))) (λ st. ends (answer Null) st) st

abbrev pub on_port : Setting → Place → (ℕ → Meaning) → Option ℕ → Meaning
on_port s at go (Some port) st = go port st
on_port s at go None st = wrong_argument s at st

abbrev pub posted : Setting → Place → (Heap → Note) → Option ℕ → Meaning
posted s at note (Some cost) st = taking cost (λ st. noted (note st.heap) (λ st. ends (answer Null) st) st) st
posted s at note None st = wrong_argument s at st

-- A step for each unit that the message costs; one that can't be sent takes none.
abbrev pub send_to : Setting → Place → Value → Option HeapObject → Meaning
send_to s at v (Some (send_port isolate port)) st = posted s at (sent isolate port v) (s.parcel_cost st.heap v) st
send_to s at v object st = wrong_argument s at st

abbrev pub spawn : Setting → Place → Value → Value → Meaning
spawn s at (Code f) v st = posted s at (spawned f.0 v) (s.parcel_cost st.heap v) st
spawn s at g v st = wrong_argument s at st

-- ---- natives

abbrev pub native_left : (Answer → Meaning) → NativeEnd → Meaning
native_left go (gives result h) st = go result (record st { heap = h })
native_left go full st = ends (ended out_of_objects) st

-- a native leaves its heap, and then comes what follows its answer
abbrev pub native_call : Natives → NativeId → List Ty → List Value → (Answer → Meaning) → Meaning
native_call natives id ts vs go st = native_left go (natives.call id ts vs st.heap) st

abbrev pub native_answer : Setting → Place → Answer → Meaning
native_answer s at (a.Value v) st = ends (answer v) st
native_answer s at (a.Throw kind) st = throw_new s.known at kind Null st
native_answer s at a.IntegerLimit st = ends (ended integer_limit) st
native_answer s at a.NeedsDouble st = ends (ended needs_double) st

-- beyond the step of its form
abbrev pub native_steps : Setting → NativeId → List Value → Heap → ℕ
native_steps s id vs h = s.natives.steps id vs h - 1

abbrev pub stepped_native : Setting → NativeId → List Value → Meaning → Meaning
stepped_native s id vs next st = taking (native_steps s id vs st.heap) next st

-- What a native does. Its steps are taken before all else.
abbrev pub native : Setting → Place → NativeId → List Value → Meaning
native s at n.Print vs st =
    stepped_native s n.Print vs (λ st. print_units s at (units_of s st.heap (argument vs 0)) st) st
native s at n.IsolateSpawn vs st = spawn s at (argument vs 0) (argument vs 1) st
native s at n.SendPortSend vs st = send_to s at (argument vs 1) (object_at st.heap (argument vs 0)) st
native s at n.ReceivePortNew vs st = stepped_native s n.ReceivePortNew vs new_port st
native s at n.ReceivePortSendPort vs st =
    stepped_native s n.ReceivePortSendPort vs
    (λ st. on_port s at (λ port. add (send_port s.isolate port)) (port_of (object_at st.heap (argument vs 0))) st) st
native s at n.ReceivePortListen vs st =
    stepped_native s n.ReceivePortListen vs
    (λ st. on_port s at (changed_port (with_handler (argument vs 1))) (port_of (object_at st.heap (argument vs 0))) st) st
native s at n.ReceivePortClose vs st =
    stepped_native s n.ReceivePortClose vs
    (λ st. on_port s at (changed_port closed_port) (port_of (object_at st.heap (argument vs 0))) st) st
native s at id vs st =
    stepped_native s id vs (λ st. native_call s.natives id st.activation.types vs (native_answer s at) st) st
