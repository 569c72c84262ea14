-- Production and each other reaction go the same way up to the first check that fails, and stopping there is the cut.
use Rattle.std.proofs.Common.{◌≡◌, ℕ, List, [], ◌∷◌, ◌++◌, ◌-◌, ◌+◌, refl, sym, ap, ◌∙◌, subst, Bool, true, false, nat_le, append_assoc}
use Rattle.dart_ir.specs.declared.native.Answer.{Answer}
use Rattle.dart_ir.specs.declared.ending.Line.TheVariants.{Printed}
use Rattle.dart_ir.specs.declared.value.Value.{Value}
use Rattle.dart_ir.specs.Object.{HeadTy, HeapObject}
use Rattle.dart_ir.specs.Ty.{Ty}
use Rattle.dart_store.specs.Heap.{cost, with_field_at, with_static}
use Rattle.core_program.specs.Core.{Core}
use Rattle.evaluation.specs.State.{State, now, Note, printed, sent, spawned, Event, told, tested, reported, with_event, with_line, check_failed, Completion, ended, Outcome, ends, Meaning, Setting, NativeEnd, gives, full}
use Rattle.evaluation.specs.Objects.{added}
use Rattle.evaluation.specs.Externals.{noted, native_left}
use Rattle.evaluation.specs.Evaluation.{eval}
use Rattle.evaluation.specs.Checks.{Checking, passes, OnFailure, lets_pass, stops, fails, judged, reaction, world}
use Rattle.evaluation.specs.Turn.{Entry, begun, started}
use Rattle.evaluation.specs.Laws.{events_in, AllPass, Agree, same, apart, ChecksAgree, TurnsAgree, Shown, shown, cut_or, cut_behind, cut, StopsAreCuts}
use Rattle.evaluation.proofs.Logic.{Clear, Logic}
use Rattle.evaluation.proofs.Forms.{world_rel, turn_rel}
use Rattle.evaluation.proofs.Kept.{Kept, Keeps, kept_logic, kept_then, kept_ends, kept_fails, kept_site, grown}

pub pass_append : (k : Checking) (a b : List Event) → AllPass k a → AllPass k b → AllPass k (a ++ b)
pass_append k [] b h q = q
pass_append k (told note l u ∷ a) b h q = pass_append k a b h q
pass_append k (tested n head args l u ∷ a) b h q = (h.0, pass_append k a b h.1 q)
pass_append k (reported n l u ∷ a) b h q = pass_append k a b h q

-- a check that failed: its site, the head and the type arguments, and the steps left and the units used
pub record Failure : Type 0 where
  pub number : ℕ
  pub head : HeadTy
  pub args : List Ty
  pub left : ℕ
  pub used : ℕ

abbrev pub event_of : Failure → Event
event_of f = tested f.number f.head f.args f.left f.used

module _ (k : Checking) (After : List Event → Failure → Outcome → Type 0)
    (keeps : (f : Outcome → Outcome) → Clear f → Keeps f → (before : List Event) (e : Failure) (o : Outcome) → After before e o
    → After before e (f o)) where
  -- the same with no check that fails, or apart after the first one
  pub data Split (a b : Outcome) : Type 0 where
    alike : a ≡ b → AllPass k (events_in a) → Split a b
    parted : (before : List Event) (e : Failure) (more : List Event) → events_in a ≡ before ++ event_of e ∷ more → AllPass k before
        → passes k e.number e.head e.args ≡ false → After before e b → Split a b

  pub record Follows (d d' : Meaning) : Type 0 where
    pub one : Kept d
    pub other : Kept d'
    pub goes : (st : State) → AllPass k st.events → Split (d st) (d' st)

  module _ (f f' : Outcome → Outcome) (c' : Clear f') (cases : (c : Completion) → Follows (λ st. f (ends c st)) (λ st. f' (ends c st)))
    where
      on : (a b : Outcome) → Split a b → Split (f a) (f' b)
      on (ends c st) b (alike e h) = subst (λ b. Split (f (ends c st)) (f' b)) e ((cases c).goes st h)
      on (ends c st) b (parted before x more e h r after) =
          let g = grown (λ st. f (ends c st)) (cases c).one st in
          parted before x (more ++ g.more) (g.is ∙ ap (λ l. l ++ g.more) e ∙ append_assoc before (event_of x ∷ more) g.more) h r
          (keeps f' c' (λ c. (cases c).other) before x b after)

  both_added : (b : Bool) (object : HeapObject) (st : State) → AllPass k st.events → Split (added b object st) (added b object st)
  both_added true object st h = alike refl h
  both_added false object st h = alike refl h

  native_goes : (go go' : Answer → Meaning) → ((x : Answer) → Follows (go x) (go' x)) → (x : NativeEnd) (st : State) → AllPass k st.events →
      Split (native_left go x st) (native_left go' x st)
  native_goes go go' q (gives result h) st p = (q result).goes (record st { heap = h }) p
  native_goes go go' q full st p = alike refl p

  note_goes : (note : Note) (d d' : Meaning) → Follows d d' → (st : State) → AllPass k st.events
      → Split (noted note d st) (noted note d' st)
  note_goes (printed units) d d' q st h =
      q.goes (with_event (with_line st (Printed units)) (told (printed units)))
      (pass_append k st.events (told (printed units) st.left st.heap.used ∷ []) h tt)
  note_goes (sent i port v x) d d' q st h =
      q.goes (with_event st (told (sent i port v x))) (pass_append k st.events (told (sent i port v x) st.left st.heap.used ∷ []) h tt)
  note_goes (spawned f v x) d d' q st h =
      q.goes (with_event st (told (spawned f v x))) (pass_append k st.events (told (spawned f v x) st.left st.heap.used ∷ []) h tt)

  pub follows_logic : Logic Follows
  follows_logic = record {
    stays = λ c. record { one = kept_ends c; other = kept_ends c; goes = λ st h. alike refl h };
    bind = λ f f' c c' q d d' r. record {
      one = kept_then f d (λ c. (q c).one) r.one;
      other = kept_then f' d' (λ c. (q c).other) r.other;
      goes = λ st h. on f f' c' q (d st) (d' st) (r.goes st h);
    };
    reads = λ g g' q. record {
      one = kept_logic.reads g g (λ n. (q n).one);
      other = kept_logic.reads g' g' (λ n. (q n).other);
      goes = λ st h. (q (now st)).goes st h;
    };
    lefts = λ n d d' q. record {
      one = kept_logic.lefts n d d q.one;
      other = kept_logic.lefts n d' d' q.other;
      goes = λ st h. q.goes (record st { left = st.left - n }) h;
    };
    spent = record { one = kept_logic.spent; other = kept_logic.spent; goes = λ st h. alike refl h };
    activations = λ a d d' q. record {
      one = kept_logic.activations a d d q.one;
      other = kept_logic.activations a d' d' q.other;
      goes = λ st h. q.goes (record st { activation = a }) h;
    };
    adds = λ object. record {
      one = kept_logic.adds object;
      other = kept_logic.adds object;
      goes = λ st h. both_added (nat_le (st.heap.used + cost object) st.heap.limit) object st h;
    };
    fields = λ r i v d d' q. record {
      one = kept_logic.fields r i v d d q.one;
      other = kept_logic.fields r i v d' d' q.other;
      goes = λ st h. q.goes (record st { heap = with_field_at st.heap r i v }) h;
    };
    statics = λ i x d d' q. record {
      one = kept_logic.statics i x d d q.one;
      other = kept_logic.statics i x d' d' q.other;
      goes = λ st h. q.goes (record st { heap = with_static st.heap i x }) h;
    };
    natives = λ ns id ts vs go go' q. record {
      one = kept_logic.natives ns id ts vs go go (λ x. (q x).one);
      other = kept_logic.natives ns id ts vs go' go' (λ x. (q x).other);
      goes = λ st h. native_goes go go' q (ns.call id ts vs st.heap) st h;
    };
    ports = λ ps d d' q. record {
      one = kept_logic.ports ps d d q.one;
      other = kept_logic.ports ps d' d' q.other;
      goes = λ st h. q.goes (record st { ports = ps }) h;
    };
    notes = λ note d d' q. record {
      one = kept_logic.notes note d d q.one;
      other = kept_logic.notes note d' d' q.other;
      goes = note_goes note d d' q;
    };
  }

  module _ (s : Setting) (how : OnFailure)
      (first : (n : ℕ) (head : HeadTy) (args : List Ty) (v : Value) (st : State) →
      After st.events (record { number = n; head = head; args = args; left = st.left; used = st.heap.used })
      (fails k s how n v (with_event st (tested n head args)))) where
    judged_goes : (n : ℕ) (head : HeadTy) (args : List Ty) (v : Value) (b : Bool) → passes k n head args ≡ b →
        (st : State) → AllPass k st.events →
        Split (judged b k s lets_pass n v (with_event st (tested n head args))) (judged b k s how n v (with_event st (tested n head args)))
    judged_goes n head args v true e st h = alike refl (pass_append k st.events (tested n head args st.left st.heap.used ∷ []) h (e, tt))
    judged_goes n head args v false e st h =
        parted st.events (record { number = n; head = head; args = args; left = st.left; used = st.heap.used }) [] refl h e
        (first n head args v st)

    site_follows : (n : ℕ) (head : HeadTy) (args : List Ty) (v : Value) →
        Follows (λ st. reaction k s lets_pass n head args v (with_event st (tested n head args)))
        (λ st. reaction k s how n head args v (with_event st (tested n head args)))
    site_follows n head args v = record {
      one = kept_site k s lets_pass n head args v;
      other = kept_site k s how n head args v;
      goes = judged_goes n head args v (passes k n head args) refl;
    }

    pub form_follows : (depth : ℕ) (form : Core ℕ) → Follows (eval form (world k s lets_pass depth)) (eval form (world k s how depth))
    form_follows depth form = world_rel follows_logic s (reaction k s lets_pass) (reaction k s how) site_follows depth form

    pub turn_follows : (depth : ℕ) (entry : Entry) → Follows (started (world k s lets_pass depth) entry)
        (started (world k s how depth) entry)
    turn_follows depth entry = turn_rel follows_logic s (reaction k s lets_pass) (reaction k s how) site_follows depth entry

-- ---- any reaction: the events go on

record Goes (before : List Event) (e : Failure) (o : Outcome) : Type 0 where
  more : List Event
  is : events_in o ≡ before ++ event_of e ∷ more

goes_keeps : (f : Outcome → Outcome) → Clear f → Keeps f → (before : List Event) (e : Failure) (o : Outcome) → Goes before e o
    → Goes before e (f o)
goes_keeps f c q before e (ends x st) g =
    let more = grown (λ st. f (ends x st)) (q x) st in
    record {
      more = g.more ++ more.more;
      is = more.is ∙ ap (λ l. l ++ more.more) g.is
          ∙ append_assoc before (event_of e ∷ g.more) more.more;
    }

goes_first : (k : Checking) (s : Setting) (how : OnFailure) (n : ℕ) (head : HeadTy) (args : List Ty) (v : Value) (st : State) →
    Goes st.events (record { number = n; head = head; args = args; left = st.left; used = st.heap.used })
    (fails k s how n v (with_event st (tested n head args)))
goes_first k s how n head args v st =
    let more = grown (fails k s how n v) (kept_fails k s how n v) (with_event st (tested n head args)) in
    record { more = more.more; is = more.is ∙ append_assoc st.events (tested n head args st.left st.heap.used ∷ []) more.more }

agreed : (k : Checking) (a b : Outcome) → Split k Goes goes_keeps a b → Agree k a b
agreed k a b (alike e h) = same e h
agreed k a b (parted before x more e h r g) = apart (record {
  before = before;
  number = x.number;
  head = x.head;
  args = x.args;
  left = x.left;
  used = x.used;
  more = more;
  other_more = g.more;
  one = e;
  other = g.is;
  passed = h;
  refused = r;
})

pub checks_agree : ChecksAgree
checks_agree k s how depth form st e =
    agreed k _ _ ((form_follows k Goes goes_keeps s how (goes_first k s how) depth form).goes st (subst (AllPass k) (sym e) tt))

pub turns_agree : TurnsAgree
turns_agree k s how depth entry isolate =
    agreed k _ _ ((turn_follows k Goes goes_keeps s how (goes_first k s how) depth entry).goes (begun isolate) tt)

-- ---- stopping: nothing follows

record Stopped (before : List Event) (e : Failure) (o : Outcome) : Type 0 where
  state : State
  is : o ≡ ends (ended (check_failed e.number)) state
  at_left : state.left ≡ e.left
  at_used : state.heap.used ≡ e.used
  at_events : state.events ≡ before ++ event_of e ∷ []

stopped_keeps : (f : Outcome → Outcome) → Clear f → Keeps f → (before : List Event) (e : Failure) (o : Outcome) → Stopped before e o
    → Stopped before e (f o)
stopped_keeps f c q before e o g = record {
  state = record g.state { activation = c.activation (check_failed e.number) g.state };
  is = ap f g.is ∙ c.ended (check_failed e.number) g.state;
  at_left = g.at_left;
  at_used = g.at_used;
  at_events = g.at_events;
}

stopped_first : (k : Checking) (s : Setting) (n : ℕ) (head : HeadTy) (args : List Ty) (v : Value) (st : State) →
    Stopped st.events (record { number = n; head = head; args = args; left = st.left; used = st.heap.used })
    (fails k s stops n v (with_event st (tested n head args)))
stopped_first k s n head args v st =
    record { state = with_event st (tested n head args); is = refl; at_left = refl; at_used = refl; at_events = refl }

cut_all : (k : Checking) (es before : List Event) (whole : Shown) → AllPass k es → cut_behind k es before whole ≡ whole
cut_all k [] before whole h = refl
cut_all k (told note l u ∷ es) before whole h = cut_all k es (before ++ told note l u ∷ []) whole h
cut_all k (tested n head args l u ∷ es) before whole h =
    ap (λ b. cut_or b n (before ++ tested n head args l u ∷ []) l u (cut_behind k es (before ++ tested n head args l u ∷ []) whole)) h.0
    ∙ cut_all k es (before ++ tested n head args l u ∷ []) whole h.1
cut_all k (reported n l u ∷ es) before whole h = cut_all k es (before ++ reported n l u ∷ []) whole h

abbrev cut_short : ℕ → List Event → ℕ → ℕ → Shown
cut_short n events left used = record { end = ended (check_failed n); events = events; left = left; used = used }

cut_first : (k : Checking) (es : List Event) (e : Failure) (more before : List Event) (whole : Shown) → AllPass k es
    → passes k e.number e.head e.args ≡ false →
    cut_behind k (es ++ event_of e ∷ more) before whole ≡ cut_short e.number (before ++ (es ++ event_of e ∷ [])) e.left e.used
cut_first k [] e more before whole h refused =
    ap (λ b. cut_or b e.number (before ++ event_of e ∷ []) e.left e.used (cut_behind k more (before ++ event_of e ∷ []) whole)) refused
cut_first k (told note l u ∷ es) e more before whole h refused =
    cut_first k es e more (before ++ told note l u ∷ []) whole h refused
    ∙ ap (λ l. cut_short e.number l e.left e.used) (append_assoc before (told note l u ∷ []) (es ++ event_of e ∷ []))
cut_first k (tested n head args l u ∷ es) e more before whole h refused =
    ap (λ b. cut_or b n (before ++ tested n head args l u ∷ []) l u
    (cut_behind k (es ++ event_of e ∷ more) (before ++ tested n head args l u ∷ []) whole)) h.0
    ∙ cut_first k es e more (before ++ tested n head args l u ∷ []) whole h.1 refused
    ∙ ap (λ l. cut_short e.number l e.left e.used) (append_assoc before (tested n head args l u ∷ []) (es ++ event_of e ∷ []))
cut_first k (reported n l u ∷ es) e more before whole h refused =
    cut_first k es e more (before ++ reported n l u ∷ []) whole h refused
    ∙ ap (λ l. cut_short e.number l e.left e.used) (append_assoc before (reported n l u ∷ []) (es ++ event_of e ∷ []))

is_cut : (k : Checking) (a b : Outcome) → Split k Stopped stopped_keeps a b → shown b ≡ cut k a
is_cut k (ends c st) b (alike e h) = ap shown (sym e) ∙ sym (cut_all k st.events [] (shown (ends c st)) h)
is_cut k (ends c st) b (parted before x more e h r g) =
    ap shown g.is
    ∙ ap (λ es. cut_short x.number es g.state.left g.state.heap.used) g.at_events
    ∙ ap (λ n. cut_short x.number (before ++ event_of x ∷ []) n g.state.heap.used) g.at_left
    ∙ ap (λ n. cut_short x.number (before ++ event_of x ∷ []) x.left n) g.at_used
    ∙ sym (ap (λ es. cut_behind k es [] (shown (ends c st))) e ∙ cut_first k before x more [] (shown (ends c st)) h r)

pub stops_are_cuts : StopsAreCuts
stops_are_cuts k s depth entry isolate =
    is_cut k _ _ ((turn_follows k Stopped stopped_keeps s stops (stopped_first k s) depth entry).goes (begun isolate) tt)
