-- Natives that are carried out.
use Rattle.std.proofs.Common.{◌≡◌, ℕ, ◌-◌, ◌<◌, ◌≤◌, List, [], false, Option, Some, None, refl, sym, ap, ◌∙◌}
use Rattle.std.proofs.lemmas.Bool.{le-ltb, lt-ltb}
use Rattle.dart_base.specs.declared.place.Place.{Place}
use Rattle.dart_ir.specs.declared.ending.Line.TheVariants.{Printed}
use Rattle.dart_ir.specs.declared.kind.ThrowKind.TheVariants.{ArgumentError}
use Rattle.dart_ir.specs.declared.native.Answer.{Answer}
use Rattle.dart_ir.specs.declared.native.NativeId.{NativeId}
use Rattle.dart_ir.specs.declared.native.NativeId.TheVariants as id
use Rattle.dart_ir.specs.declared.value.Value.{Value}
use Rattle.dart_ir.specs.declared.value.Value.TheVariants.{Null}
use Rattle.dart_ir.specs.Ty.{Ty}
use Rattle.dart_store.specs.Heap.{Heap}
use Rattle.native_base.specs.Plan.{done, full as no_room}
use Rattle.dart_native.specs.Native as n
use Rattle.evaluation.specs.State.{State, with_line, answer, ended, out_of_steps, out_of_objects, Outcome, ends, Meaning}
use Rattle.evaluation.specs.Sequence.{taken, taking}
use Rattle.evaluation.specs.Creation.{behind}
use Rattle.evaluation.specs.Objects.{throw_new}
use Rattle.evaluation.specs.Values.{units_of}
use Rattle.evaluation.specs.Externals.{argument, native, native_left, native_call, native_answer, native_steps, print_units}
use Rattle.machine_lookup.specs.Rows.{but_last}
use Rattle.machine_frame.specs.declared.around.Around.{Around}
use Rattle.machine_frame.specs.declared.run.Frame.{Frame}
use Rattle.machine_frame.specs.declared.run.Run.{Run}
use Rattle.machine_frame.specs.Natives.{read_of, end_of, native_steps as steps_of, native_end}
use Rattle.machine_frame.specs.Outside.{setting_of}
use Rattle.machine_frame.specs.Frames.{Below, below_of, seen, resume, mute, ending, ending_row, does}
use Rattle.machine_frame.proofs.Natives.{native_does}
use Rattle.machine_frame.proofs.Mute.{quiet}

pub steps_are : (a : Around) (i : NativeId) (vs : List Value) (h : Heap) → steps_of a i vs h ≡ n.steps (read_of a) i vs h
unfolding steps_of
steps_are a i vs h = refl

-- steps are taken where as many are left
pub steps_are_there : (k : ℕ) (next : Meaning) (st : State) → k ≤ st.left → taking k next st ≡ next (record st { left = st.left - k })
steps_are_there k next st h = ap (λ b. taken b k next st) (le-ltb st.left k h)

pub steps_are_short : (k : ℕ) (next : Meaning) (st : State) → st.left < k → taking k next st ≡ ends (ended out_of_steps) (record st { left = 0 })
steps_are_short k next st h = ap (λ b. taken b k next st) (lt-ltb st.left k h)

module _ (a : Around) (at : Place) (i : NativeId) (vs : List Value) (st : State) (extra : ℕ) where
  abbrev after : Meaning
  after st = native_call (setting_of a).natives i st.activation.types vs (native_answer (setting_of a) at) st

  pub plain_goes : n.is_of_evaluator i ≡ false → extra ≡ native_steps (setting_of a) i vs st.heap → extra ≤ st.left
      → native (setting_of a) at i vs st ≡ after (record st { left = st.left - extra })
  plain_goes own e h = native_does a at i vs st own ∙ ap (λ k. taking k after st) (sym e) ∙ steps_are_there extra after st h

  pub plain_stops : n.is_of_evaluator i ≡ false → extra ≡ native_steps (setting_of a) i vs st.heap → st.left < extra
      → native (setting_of a) at i vs st ≡ ends (ended out_of_steps) (record st { left = 0 })
  plain_stops own e h = native_does a at i vs st own ∙ ap (λ k. taking k after st) (sym e) ∙ steps_are_short extra after st h

module _ (a : Around) (at : Place) (i : NativeId) (ts : List Ty) (vs : List Value) (st : State) where
  pub called : (x : Answer) (h : Heap) → n.native (read_of a) i ts vs st.heap ≡ done x h
      → native_call (setting_of a).natives i ts vs (native_answer (setting_of a) at) st ≡ native_answer (setting_of a) at x (record st { heap = h })
  unfolding native_end
  called x h e = ap (λ o. native_left (native_answer (setting_of a) at) (end_of o) st) e

  pub filled : n.native (read_of a) i ts vs st.heap ≡ no_room
      → native_call (setting_of a).natives i ts vs (native_answer (setting_of a) at) st ≡ ends (ended out_of_objects) st
  unfolding native_end
  filled e = ap (λ o. native_left (native_answer (setting_of a) at) (end_of o) st) e

-- behind no units
pub alone : (o : Option (List ℕ)) (units : List ℕ) → behind (Some []) o ≡ Some units → o ≡ Some units
alone (Some us) units e = e
alone None units e = absurd (cc)

-- operands that are cut off, before an outcome that is the same
pub rest : (a : Around) (r : Run) (count : ℕ) (l : List Value) (o o' : Outcome) → l ≡ but_last count r.operands.items → o ≡ o'
    → mute (resume a (record (below_of r) { operands = l }) r.frames.items o) ≡ ending_row a r count o'
rest a r count l o o' cut e =
    ap (λ (l : List Value). mute (resume a (record (below_of r) { operands = l }) r.frames.items o)) cut ∙ ap (ending_row a r count) e

-- ---- what is printed

module _ (a : Around) (at : Place) (vs : List Value) (st : State) (extra : ℕ) where
  abbrev prints : Meaning
  prints st = print_units (setting_of a) at (units_of (setting_of a) st.heap (argument vs 0)) st

  pub print_goes : extra ≡ native_steps (setting_of a) id.Print vs st.heap → extra ≤ st.left
      → native (setting_of a) at id.Print vs st ≡ prints (record st { left = st.left - extra })
  print_goes e h = ap (λ k. taking k prints st) (sym e) ∙ steps_are_there extra prints st h

  pub print_stops : extra ≡ native_steps (setting_of a) id.Print vs st.heap → st.left < extra
      → native (setting_of a) at id.Print vs st ≡ ends (ended out_of_steps) (record st { left = 0 })
  print_stops e h = ap (λ k. taking k prints st) (sym e) ∙ steps_are_short extra prints st h

pub no_text : (a : Around) (r : Run) (at : Place) (v : Value) → units_of (setting_of a) r.store v ≡ None
    → does a r (λ w. throw_new w.setting.known at ArgumentError Null) ≡ does a r (λ w st. print_units w.setting at (units_of w.setting st.heap v) st)
no_text a r at v e = ap (λ (o : Option (List ℕ)). ending a r (print_units (setting_of a) at o (seen r))) (sym e)

pub printed : (a : Around) (b : Below) (fs : List Frame) (at : Place) (o : Option (List ℕ)) (units : List ℕ) (st : State) → o ≡ Some units
    → mute (resume a b fs (ends (answer Null) (with_line st (Printed units)))) ≡ mute (resume a b fs (print_units (setting_of a) at o st))
printed a b fs at o units st e =
    quiet a b fs (ends (answer Null) (with_line st (Printed units))) (print_units (setting_of a) at (Some units) st) refl
    ∙ ap (λ (o : Option (List ℕ)). mute (resume a b fs (print_units (setting_of a) at o st))) (sym e)
