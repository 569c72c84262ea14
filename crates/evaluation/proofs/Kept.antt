-- What each form keeps: no step comes back, and events before it stay before it.
use Rattle.std.proofs.Common.{◌≡◌, ℕ, List, [], ◌∷◌, ◌++◌, ◌≤◌, ◌+◌, ◌-◌, refl, sym, ap, ◌∙◌, arith, Bool, true, false, nat_le, le_trans, append-nil}
use Rattle.dart_ir.specs.declared.ending.Line.{Line}
use Rattle.dart_ir.specs.declared.kind.ThrowKind.TheVariants.{TypeError}
use Rattle.dart_ir.specs.declared.native.Answer.{Answer}
use Rattle.dart_ir.specs.declared.value.Value.{Value}
use Rattle.dart_ir.specs.declared.value.Value.TheVariants.{Null}
use Rattle.dart_ir.specs.Object.{HeadTy, HeapObject}
use Rattle.dart_ir.specs.Ty.{Ty}
use Rattle.dart_store.specs.Heap.{cost, with_field_at, with_static}
use Rattle.core_program.specs.Core.{Core}
use Rattle.evaluation.specs.State.{State, now, Note, printed, sent, spawned, Event, told, tested, reported, with_event, with_line, out_of_objects, check_failed, Completion, answer, ended, Outcome, ends, Meaning, Setting, NativeEnd, gives, full}
use Rattle.evaluation.specs.Objects.{added, throw_new}
use Rattle.evaluation.specs.Externals.{noted, native_left}
use Rattle.evaluation.specs.Evaluation.{eval}
use Rattle.evaluation.specs.Checks.{Checking, passes, OnFailure, lets_pass, stops, reports, site_place, report_line, fails, judged, reaction, world}
use Rattle.evaluation.specs.Classes.{site_at}
use Rattle.evaluation.specs.Laws.{events_in, left_of}
use Rattle.evaluation.proofs.Logic.{Logic, throw_new_rel}
use Rattle.evaluation.proofs.Forms.{world_rel}

-- an event before all others
abbrev pub before : Event → State → State
before e st = record st { events = e ∷ st.events }

abbrev pub front : Event → Outcome → Outcome
front e (ends c st) = ends c (before e st)

abbrev pub fronts : List Event → Outcome → Outcome
fronts [] o = o
fronts (e ∷ es) o = front e (fronts es o)

pub record Kept (d : Meaning) : Type 0 where
  pub within : (st : State) → left_of (d st) ≤ st.left
  pub moves : (e : Event) (st : State) → d (before e st) ≡ front e (d st)

-- the same for what becomes of an outcome
abbrev pub Keeps : (Outcome → Outcome) → Type 0
Keeps f = (c : Completion) → Kept (λ st. f (ends c st))

pub keeps_within : (f : Outcome → Outcome) → Keeps f → (o : Outcome) → left_of (f o) ≤ left_of o
keeps_within f k (ends c st) = (k c).within st

pub keeps_moves : (f : Outcome → Outcome) → Keeps f → (e : Event) (o : Outcome) → f (front e o) ≡ front e (f o)
keeps_moves f k e (ends c st) = (k c).moves e st

pub kept_then : (f : Outcome → Outcome) (d : Meaning) → Keeps f → Kept d → Kept (λ st. f (d st))
kept_then f d kf kd = record {
  within = λ st. le_trans (keeps_within f kf (d st)) (kd.within st);
  moves = λ e st. ap f (kd.moves e st) ∙ keeps_moves f kf e (d st);
}

pub kept_ends : (c : Completion) → Kept (λ st. ends c st)
kept_ends c = record { within = λ st. omega arith; moves = λ e st. refl }

pub kept_event : (t : ℕ → ℕ → Event) (d : Meaning) → Kept d → Kept (λ st. d (with_event st t))
kept_event t d k = record { within = λ st. k.within (with_event st t); moves = λ e st. k.moves e (with_event st t) }

pub kept_line : (line : Line) (t : ℕ → ℕ → Event) (d : Meaning) → Kept d → Kept (λ st. d (with_event (with_line st line) t))
kept_line line t d k = record {
  within = λ st. k.within (with_event (with_line st line) t);
  moves = λ e st. k.moves e (with_event (with_line st line) t);
}

kept_added : (b : Bool) (object : HeapObject) → Kept (added b object)
kept_added true object = record { within = λ st. omega arith; moves = λ e st. refl }
kept_added false object = kept_ends (ended out_of_objects)

kept_native : (go : Answer → Meaning) → ((x : Answer) → Kept (go x)) → (x : NativeEnd) → Kept (native_left go x)
kept_native go k (gives result h) = record {
  within = λ st. (k result).within (record st { heap = h });
  moves = λ e st. (k result).moves e (record st { heap = h });
}
kept_native go k full = kept_ends (ended out_of_objects)

kept_note : (note : Note) (d : Meaning) → Kept d → Kept (noted note d)
kept_note (printed units) d k = kept_line _ (told (printed units)) d k
kept_note (sent i port v h) d k = kept_event (told (sent i port v h)) d k
kept_note (spawned f v h) d k = kept_event (told (spawned f v h)) d k

abbrev pub KeptLeft : Meaning → Meaning → Type 0
KeptLeft d d' = Kept d

pub kept_logic : Logic KeptLeft
kept_logic = record {
  stays = kept_ends;
  bind = λ f f' c c' k d d' q. kept_then f d k q;
  reads = λ g g' q. record { within = λ st. (q (now st)).within st; moves = λ e st. (q (now st)).moves e st };
  lefts = λ n d d' q. record {
    within = λ st. (let h = q.within (record st { left = st.left - n }) in omega arith);
    moves = λ e st. q.moves e (record st { left = st.left - n });
  };
  spent = record { within = λ st. omega arith; moves = λ e st. refl };
  activations = λ a d d' q. record {
    within = λ st. q.within (record st { activation = a });
    moves = λ e st. q.moves e
        (record st { activation = a });
  };
  adds = λ object. record {
    within = λ st. (kept_added (nat_le (st.heap.used + cost object) st.heap.limit) object).within st;
    moves = λ e st. (kept_added (nat_le (st.heap.used + cost object) st.heap.limit) object).moves e st;
  };
  fields = λ r i v d d' q. record {
    within = λ st. q.within (record st { heap = with_field_at st.heap r i v });
    moves = λ e st. q.moves e (record st { heap = with_field_at st.heap r i v });
  };
  statics = λ i x d d' q. record {
    within = λ st. q.within (record st { heap = with_static st.heap i x });
    moves = λ e st. q.moves e (record st { heap = with_static st.heap i x });
  };
  natives = λ ns id ts vs go go' q. record {
    within = λ st. (kept_native go q (ns.call id ts vs st.heap)).within st;
    moves = λ e st. (kept_native go q (ns.call id ts vs st.heap)).moves e st;
  };
  ports = λ ps d d' q. record { within = λ st. q.within (record st { ports = ps }); moves = λ e st. q.moves e (record st { ports = ps }) };
  notes = λ note d d' q. kept_note note d q;
}

pub kept_fails : (k : Checking) (s : Setting) (how : OnFailure) (number : ℕ) (v : Value) → Kept (fails k s how number v)
kept_fails k s lets_pass number v = kept_ends (answer v)
kept_fails k s stops number v = kept_ends (ended (check_failed number))
kept_fails k s reports number v =
    kept_line (report_line k.program number) (reported number) (throw_new s.known (site_place (site_at k.program number)) TypeError Null)
    (throw_new_rel kept_logic s.known (site_place (site_at k.program number)) TypeError Null)

pub kept_judged : (b : Bool) (k : Checking) (s : Setting) (how : OnFailure) (number : ℕ) (v : Value) → Kept (judged b k s how number v)
kept_judged true k s how number v = kept_ends (answer v)
kept_judged false k s how number v = kept_fails k s how number v

pub kept_site : (k : Checking) (s : Setting) (how : OnFailure) (number : ℕ) (head : HeadTy) (args : List Ty) (v : Value) →
    Kept (λ st. reaction k s how number head args v (with_event st (tested number head args)))
kept_site k s how number head args v =
    kept_event (tested number head args) (reaction k s how number head args v) (kept_judged (passes k number head args) k s how number v)

pub kept : (k : Checking) (s : Setting) (how : OnFailure) (depth : ℕ) (form : Core ℕ) → Kept (eval form (world k s how depth))
kept k s how depth form = world_rel kept_logic s (reaction k s how) (reaction k s how) (kept_site k s how) depth form

-- events are only added
pub record Grown (es : List Event) (o : Outcome) : Type 0 where
  pub more : List Event
  pub is : events_in o ≡ es ++ more

events_front : (e : Event) (o : Outcome) → events_in (front e o) ≡ e ∷ events_in o
events_front e (ends c st) = refl

events_fronts : (es : List Event) (o : Outcome) → events_in (fronts es o) ≡ es ++ events_in o
events_fronts [] o = refl
events_fronts (e ∷ es) o = events_front e (fronts es o) ∙ ap (λ l. e ∷ l) (events_fronts es o)

from_none : (d : Meaning) → Kept d → (es : List Event) (st : State) → d (record st { events = es ++ st.events }) ≡ fronts es (d st)
from_none d k [] st = refl
from_none d k (e ∷ es) st = k.moves e (record st { events = es ++ st.events }) ∙ ap (front e) (from_none d k es st)

pub grown : (d : Meaning) → Kept d → (st : State) → Grown st.events (d st)
grown d k st = record {
  more = events_in (d (record st { events = [] }));
  is = ap (λ es. events_in (d (record st { events = es }))) (sym (append-nil st.events))
      ∙ ap events_in (from_none d k st.events (record st { events = [] }))
      ∙ events_fronts st.events (d (record st { events = [] }));
}
