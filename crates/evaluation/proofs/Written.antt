-- What is written is what the events tell.
use Rattle.std.proofs.Common.{◌≡◌, ℕ, List, [], ◌∷◌, ◌++◌, ◌-◌, ◌+◌, refl, sym, ap, ◌∙◌, Bool, true, false, nat_le, append_assoc, append-nil}
use Rattle.dart_ir.specs.declared.ending.Line.{Line}
use Rattle.dart_ir.specs.declared.ending.Line.TheVariants.{Printed}
use Rattle.dart_ir.specs.declared.kind.ThrowKind.TheVariants.{TypeError}
use Rattle.dart_ir.specs.declared.native.Answer.{Answer}
use Rattle.dart_ir.specs.declared.value.Value.{Value}
use Rattle.dart_ir.specs.declared.value.Value.TheVariants.{Null}
use Rattle.dart_ir.specs.Object.{HeadTy, HeapObject}
use Rattle.dart_ir.specs.Ty.{Ty}
use Rattle.dart_store.specs.Heap.{cost, with_field_at, with_static}
use Rattle.core_program.specs.Program.{Program}
use Rattle.evaluation.specs.State.{State, now, Note, printed, sent, spawned, Event, told, tested, reported, with_event, with_line, Completion, Outcome, ends, Meaning, Setting, NativeEnd, gives, full}
use Rattle.evaluation.specs.Classes.{site_at}
use Rattle.evaluation.specs.Objects.{added}
use Rattle.evaluation.specs.Externals.{noted, native_left}
use Rattle.evaluation.specs.Checks.{Checking, passes, OnFailure, lets_pass, stops, reports, site_place, report_line, fails, judged, reaction}
use Rattle.evaluation.specs.Turn.{begun}
use Rattle.evaluation.specs.Laws.{state_of, note_lines, lines, IsWritten, OutputIsTold}
use Rattle.evaluation.proofs.Logic.{Logic, throw_new_rel}
use Rattle.evaluation.proofs.Forms.{turn_rel}

lines_append : (p : Program ℕ) (a b : List Event) → lines p (a ++ b) ≡ lines p a ++ lines p b
lines_append p [] b = refl
lines_append p (told note l u ∷ a) b = ap (λ x. note_lines note ++ x) (lines_append p a b)
    ∙ sym (append_assoc (note_lines note) (lines p a) (lines p b))
lines_append p (tested n head args l u ∷ a) b = lines_append p a b
lines_append p (reported n l u ∷ a) b = ap (λ x. report_line p n ∷ x) (lines_append p a b)

grown : (p : Program ℕ) (st : State) (more : List Line) (e : Event) → lines p (e ∷ []) ≡ more → IsWritten p st → st.output ++ more
    ≡ lines p (st.events ++ e ∷ [])
grown p st more e h q = ap (λ x. x ++ more) q ∙ ap (λ x. lines p st.events ++ x) (sym h) ∙ sym (lines_append p st.events (e ∷ []))

abbrev pub Writes : Program ℕ → Meaning → Meaning → Type 0
Writes p d d' = (st : State) → IsWritten p st → IsWritten p (state_of (d st))

module _ (p : Program ℕ) where
  on : (f : Outcome → Outcome) → ((c : Completion) → Writes p (λ st. f (ends c st)) (λ st. f (ends c st))) →
      (o : Outcome) → IsWritten p (state_of o) → IsWritten p (state_of (f o))
  on f k (ends c st) q = k c st q

  added_writes : (b : Bool) (object : HeapObject) (st : State) → IsWritten p st → IsWritten p (state_of (added b object st))
  added_writes true object st q = q
  added_writes false object st q = q

  native_writes : (go : Answer → Meaning) → ((x : Answer) → Writes p (go x) (go x)) → (x : NativeEnd) (st : State) → IsWritten p st
      → IsWritten p (state_of (native_left go x st))
  native_writes go k (gives result h) st q = k result (record st { heap = h }) q
  native_writes go k full st q = q

  unwritten : (st : State) (e : Event) → lines p (e ∷ []) ≡ [] → IsWritten p st → st.output ≡ lines p (st.events ++ e ∷ [])
  unwritten st e h q = sym (append-nil st.output) ∙ grown p st [] e h q

  note_writes : (note : Note) (d : Meaning) → Writes p d d → Writes p (noted note d) (noted note d)
  note_writes (printed units) d k st q =
      k (with_event (with_line st (Printed units)) (told (printed units)))
      (grown p st (Printed units ∷ []) (told (printed units) st.left st.heap.used) refl q)
  note_writes (sent i port v x) d k st q =
      k (with_event st (told (sent i port v x))) (unwritten st (told (sent i port v x) st.left st.heap.used) refl q)
  note_writes (spawned f v x) d k st q =
      k (with_event st (told (spawned f v x))) (unwritten st (told (spawned f v x) st.left st.heap.used) refl q)

  writes_logic : Logic (Writes p)
  writes_logic = record {
    stays = λ c st q. q;
    bind = λ f f' c c' k d d' r st q. on f k (d st) (r st q);
    reads = λ g g' r st q. r (now st) st q;
    lefts = λ n d d' r st q. r (record st { left = st.left - n }) q;
    spent = λ st q. q;
    activations = λ a d d' r st q. r (record st { activation = a }) q;
    adds = λ object st q. added_writes (nat_le (st.heap.used + cost object) st.heap.limit) object st q;
    fields = λ r i v d d' k st q. k (record st { heap = with_field_at st.heap r i v }) q;
    statics = λ i x d d' k st q. k (record st { heap = with_static st.heap i x }) q;
    natives = λ ns id ts vs go go' k st q. native_writes go k (ns.call id ts vs st.heap) st q;
    ports = λ ps d d' k st q. k (record st { ports = ps }) q;
    notes = λ note d d' k. note_writes note d k;
  }

module _ (k : Checking) (s : Setting) (how : OnFailure) where
  fails_writes : (x : OnFailure) (n : ℕ) (v : Value) → Writes k.program (fails k s x n v) (fails k s x n v)
  fails_writes lets_pass n v st q = q
  fails_writes stops n v st q = q
  fails_writes reports n v st q =
      throw_new_rel (writes_logic k.program) s.known (site_place (site_at k.program n)) TypeError Null
      (with_event (with_line st (report_line k.program n)) (reported n))
      (grown k.program st (report_line k.program n ∷ []) (reported n st.left st.heap.used) refl q)

  judged_writes : (b : Bool) (n : ℕ) (v : Value) → Writes k.program (judged b k s how n v) (judged b k s how n v)
  judged_writes true n v st q = q
  judged_writes false n v st q = fails_writes how n v st q

  site_writes : (n : ℕ) (head : HeadTy) (args : List Ty) (v : Value) →
      Writes k.program (λ st. reaction k s how n head args v (with_event st (tested n head args)))
      (λ st. reaction k s how n head args v (with_event st (tested n head args)))
  site_writes n head args v st q =
      judged_writes (passes k n head args) n v (with_event st (tested n head args))
      (unwritten k.program st (tested n head args st.left st.heap.used) refl q)

pub output_is_told : OutputIsTold
output_is_told k s how depth entry isolate =
    turn_rel (writes_logic k.program) s (reaction k s how) (reaction k s how) (site_writes k s how) depth entry (begun isolate) refl
