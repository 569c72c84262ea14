-- Production writes no report: what a form adds to the output is what is printed.
use Rattle.std.proofs.Common.{ℕ, List, [], ◌∷◌, ◌++◌, ◌-◌, ◌+◌, Bool, true, false, nat_le}
use Rattle.dart_ir.specs.declared.ending.Line.{Line}
use Rattle.dart_ir.specs.declared.ending.Line.TheVariants.{Printed, Report}
use Rattle.dart_ir.specs.declared.native.Answer.{Answer}
use Rattle.dart_ir.specs.declared.value.Value.{Value}
use Rattle.dart_ir.specs.Object.{HeapObject}
use Rattle.dart_store.specs.Heap.{cost, with_field_at, with_static}
use Rattle.evaluation.specs.State.{State, now, Note, printed, sent, spawned, told, tested, with_event, with_line, Completion, Outcome, ends, Meaning, Setting, NativeEnd, gives, full}
use Rattle.evaluation.specs.Objects.{added}
use Rattle.evaluation.specs.Externals.{noted, native_left}
use Rattle.evaluation.specs.Checks.{Checking, passes, lets_pass, judged, reaction, world}
use Rattle.evaluation.specs.Turn.{begun, started, turn_of}
use Rattle.evaluation.specs.Laws.{state_of}
use Rattle.evaluation.proofs.Logic.{Logic}
use Rattle.evaluation.proofs.Forms.{turn_rel}
use Rattle.laws_checked.specs.Laws.{NoReport, ProductionReportsNothing}

abbrev IsSilent : State → Type 0
IsSilent st = NoReport st.output

abbrev Silent : Meaning → Meaning → Type 0
Silent d d' = (st : State) → IsSilent st → IsSilent (state_of (d st))

one_more : (ls : List Line) (units : List ℕ) → NoReport ls → NoReport (ls ++ Printed units ∷ [])
one_more [] units h = tt
one_more (Printed us ∷ ls) units h = one_more ls units h
one_more (Report site kind ∷ ls) units h = h

on : (f : Outcome → Outcome) → ((c : Completion) → Silent (λ st. f (ends c st)) (λ st. f (ends c st))) → (o : Outcome)
    → IsSilent (state_of o) → IsSilent (state_of (f o))
on f k (ends c st) h = k c st h

added_silent : (b : Bool) (object : HeapObject) → Silent (added b object) (added b object)
added_silent true object st h = h
added_silent false object st h = h

native_silent : (go : Answer → Meaning) → ((x : Answer) → Silent (go x) (go x)) → (x : NativeEnd)
    → Silent (native_left go x) (native_left go x)
native_silent go k (gives result heap) st h = k result (record st { heap = heap }) h
native_silent go k full st h = h

note_silent : (note : Note) (d : Meaning) → Silent d d → Silent (noted note d) (noted note d)
note_silent (printed units) d k st h =
    k (with_event (with_line st (Printed units)) (told (printed units))) (one_more st.output units h)
note_silent (sent i port v x) d k st h = k (with_event st (told (sent i port v x))) h
note_silent (spawned f v x) d k st h = k (with_event st (told (spawned f v x))) h

silent_logic : Logic Silent
silent_logic = record {
  stays = λ c st h. h;
  bind = λ f f' c c' k d d' r st h. on f k (d st) (r st h);
  reads = λ g g' r st h. r (now st) st h;
  lefts = λ n d d' r st h. r (record st { left = st.left - n }) h;
  spent = λ st h. h;
  activations = λ a d d' r st h. r (record st { activation = a }) h;
  adds = λ object st h. added_silent (nat_le (st.heap.used + cost object) st.heap.limit) object st h;
  fields = λ r i v d d' k st h. k (record st { heap = with_field_at st.heap r i v }) h;
  statics = λ i x d d' k st h. k (record st { heap = with_static st.heap i x }) h;
  natives = λ ns id ts vs go go' k st h. native_silent go k (ns.call id ts vs st.heap) st h;
  ports = λ ps d d' k st h. k (record st { ports = ps }) h;
  notes = λ note d d' k. note_silent note d k;
}

judged_silent : (b : Bool) (k : Checking) (s : Setting) (n : ℕ) (v : Value)
    → Silent (judged b k s lets_pass n v) (judged b k s lets_pass n v)
judged_silent true k s n v st h = h
judged_silent false k s n v st h = h

silent : (s : Setting) (o : Outcome) → IsSilent (state_of o) → NoReport (turn_of s o).output
silent s (ends c st) h = h

pub production_reports_nothing : ProductionReportsNothing
production_reports_nothing k s depth entry isolate =
    silent s (started (world k s lets_pass depth) entry (begun isolate))
    (turn_rel silent_logic s (reaction k s lets_pass) (reaction k s lets_pass)
    (λ n head args v st h. judged_silent (passes k n head args) k s n v (with_event st (tested n head args)) h) depth entry
    (begun isolate) tt)
