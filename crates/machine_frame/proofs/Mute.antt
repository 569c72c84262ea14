-- The events before a frame make no difference to the rest.
use Rattle.std.proofs.Common.{◌≡◌, inl, inr, ℕ, ◌+◌, nat_le, List, [], ◌∷◌, ◌++◌, refl, sym, ap, ◌∙◌, map, drop, reverse, Bool, true, false, None}
use Rattle.dart_base.specs.declared.place.Place.{Place}
use Rattle.dart_ir.specs.declared.value.Value.{Value}
use Rattle.dart_ir.specs.declared.value.Value.TheVariants.{Null, Bool as Truth}
use Rattle.dart_ir.specs.declared.ending.Line.{Line}
use Rattle.dart_ir.specs.declared.kind.ThrowKind.{ThrowKind}
use Rattle.dart_ir.specs.declared.kind.ThrowKind.TheVariants.{TypeError}
use Rattle.dart_ir.specs.Object.{HeadTy, HeapObject, instance}
use Rattle.dart_store.specs.Heap.{Heap, cost}
use Rattle.dart_ir.specs.Ty.{Ty, ty}
use Rattle.core_program.specs.Core as c
use Rattle.core_program.specs.View as v
use Rattle.core_program.specs.Program.{Parameter}
use Rattle.core_program.specs.declared.form.Case.{Case}
use Rattle.core_program.specs.declared.form.Form.TheViews.{out-Attempt}
use Rattle.evaluation.specs.State.{State, now, Event, tested, reported, with_event, with_line, answer, jumps, returns, throws, ended, Outcome, ends, Meaning, Reaction, Given, Callee, Known, Setting, World}
use Rattle.evaluation.specs.Sequence.{on_answer, is_true}
use Rattle.evaluation.specs.Values.{head_of, arguments_here}
use Rattle.evaluation.specs.Evaluation.{eval, evals, part, clauses, nested, site, unary, binary, row, binding, returned}
use Rattle.evaluation.specs.Statements as s
use Rattle.evaluation.specs.Variables.{declare, settled}
use Rattle.evaluation.specs.Checks.{passes, judged, OnFailure, lets_pass, reports, reaction, report_line, site_place}
use Rattle.evaluation.specs.Classes.{site_at}
use Rattle.evaluation.specs.Objects.{added, throw_new}
use Rattle.evaluation.proofs.Logic as l
use Rattle.evaluation.proofs.Chapters as p
use Rattle.evaluation.proofs.Calls as calls
use Rattle.evaluation.proofs.Cases as switches
use Rattle.evaluation.proofs.Forms as forms
use Rattle.evaluation.proofs.Kept.{Kept, Keeps, kept_then, kept_logic, kept_ends, kept_site, front}
use Rattle.machine_frame.specs.declared.around.Around.{Around}
use Rattle.machine_frame.specs.declared.run.Turn.{Turn}
use Rattle.machine_frame.specs.declared.run.Frame.{Frame}
use Rattle.machine_frame.specs.declared.run.Frame.TheVariants as f
use Rattle.machine_frame.specs.declared.run.Run.{Run}
use Rattle.machine_frame.specs.Outside.{checking_of, failing, known_of, setting_of, world_in, IsAdmitted}
use Rattle.machine_lookup.specs.Rows.{last_of, but_last}
use Rattle.machine_frame.specs.Labels.{labels, labelled_all}
use Rattle.machine_frame.specs.Frames.{Below, below, forms_of, loop_of, next_turn, tested as tested_by, done, done_of, joins, last_body, completed, thrown_of, given_of, activation_of, branches_of, case_from, case_falls, resumed, resume_from, resume, mute, below_of, seen, does, ending, ending_row}

mute_front : (e : Event) (o : Outcome) → mute (front e o) ≡ mute o
mute_front e (ends c st) = refl

-- events before it make no difference to what a kept meaning does
den_mute_from : (d : Meaning) → Kept d → (es : List Event) (st : State) → st.events ≡ [] → mute (d (record st { events = es })) ≡ mute (d st)
den_mute_from d k [] st e = ap (λ es. mute (d (record st { events = es }))) (sym e)
den_mute_from d k (x ∷ es) st e =
    ap mute (k.moves x (record st { events = es })) ∙ mute_front x (d (record st { events = es })) ∙ den_mute_from d k es st e

den_mute : (d : Meaning) → Kept d → (st : State) → mute (d st) ≡ mute (d (record st { events = [] }))
den_mute d k st = den_mute_from d k st.events (record st { events = [] }) refl

pub keeps_mute : (g : Outcome → Outcome) → Keeps g → (o : Outcome) → mute (g o) ≡ mute (g (mute o))
keeps_mute g k (ends c st) = den_mute (λ st. g (ends c st)) (k c) st

module _ (a : Around) (d : ℕ) where
  abbrev S : Setting
  S = setting_of a

  abbrev R : Reaction
  R = reaction (checking_of a) S (failing a.setup.now.annotated)

  abbrev C : ℕ → Callee → Given → Meaning
  C = (nested S R d).calls

  abbrev I : ℕ → Meaning
  I = (nested S R d).inits

  sites : (n : ℕ) (head : HeadTy) (args : List Ty) (u : Value) → Kept (λ st. R n head args u (with_event st (tested n head args)))
  sites = kept_site (checking_of a) S (failing a.setup.now.annotated)

  kept_calls : (x : ℕ) (callee : Callee) (g : Given) → Kept (C x callee g)
  kept_calls = forms.calls_rel kept_logic S R R sites d

  kept_inits : (x : ℕ) → Kept (I x)
  kept_inits = forms.inits_rel kept_logic S R R sites d

  pub form_kept : (x : c.Core ℕ) → Kept (eval x (world_in a d))
  form_kept x = forms.eval_rel kept_logic S R R C C I I sites kept_calls kept_inits x

  pub part_kept : (x : c.Part ℕ) (u : Value) → Kept (part x (world_in a d) u)
  part_kept x u = forms.part_rel kept_logic S R R C C I I sites kept_calls kept_inits x u

  pub rows : (b : Bool) (xs : c.Cores ℕ) → l.Rows kept_logic (evals b xs (world_in a d)) (evals b xs (world_in a d))
  rows b xs = forms.evals_rel kept_logic S R R C C I I sites kept_calls kept_inits b xs

  loop_kept : (t : Turn) → Kept (loop_of (world_in a d) t)
  loop_kept t =
      let w = world_in a d in
      p.loop_rel kept_logic S t.target t.copies.now (part (v.part t.condition.now) w (Truth true)) (part (v.part t.condition.now) w (Truth true))
      (part (v.part t.update.now) w Null) (part (v.part t.update.now) w Null) (part (v.part t.body.now) w Null) (part (v.part t.body.now) w Null)
      (part_kept (v.part t.condition.now) (Truth true)) (part_kept (v.part t.update.now) Null) (part_kept (v.part t.body.now) Null)

  next_kept : (t : Turn) → Kept (next_turn (world_in a d) t)
  next_kept t =
      let w = world_in a d in
      p.going_on_rel kept_logic S t.target t.copies.now (part (v.part t.condition.now) w (Truth true)) (part (v.part t.condition.now) w (Truth true))
      (part (v.part t.update.now) w Null) (part (v.part t.update.now) w Null) (part (v.part t.body.now) w Null) (part (v.part t.body.now) w Null)
      (part_kept (v.part t.condition.now) (Truth true)) (part_kept (v.part t.update.now) Null) (part_kept (v.part t.body.now) Null)
      (loop_of w t) (loop_of w t) (loop_kept t)

  rest_kept : (t : Turn) (u : Value) → Kept (tested_by (world_in a d) t u)
  rest_kept t u =
      let w = world_in a d in
      p.turn_rest_rel kept_logic S t.target t.copies.now (part (v.part t.condition.now) w (Truth true)) (part (v.part t.condition.now) w (Truth true))
      (part (v.part t.update.now) w Null) (part (v.part t.update.now) w Null) (part (v.part t.body.now) w Null) (part (v.part t.body.now) w Null)
      (part_kept (v.part t.condition.now) (Truth true)) (part_kept (v.part t.update.now) Null) (part_kept (v.part t.body.now) Null)
      (loop_of w t) (loop_of w t) (loop_kept t) u

  -- a value that comes to a site
  pub site_kept : (n : ℕ) (u : Value) → Kept (site (world_in a d) n u)
  site_kept n u = calls.site_rel kept_logic S R R C C I I sites kept_calls kept_inits n u

  pub row_keeps : (at : Place) (job : c.Job ℕ) (names : List ℕ) (vs : List Value) → Kept (row (world_in a d) at job names vs)
  row_keeps at job names vs = forms.row_rel kept_logic S R R C C I I sites kept_calls kept_inits at job names vs

  form_done : (x : c.Form ℕ) (at : Place) (vs : List Value) → Kept (done_of x at (world_in a d) vs)
  form_done (c.row job xs names) at vs = forms.row_rel kept_logic S R R C C I I sites kept_calls kept_inits at job names vs
  form_done (c.new k x types xs names) at vs = calls.new_rel kept_logic S R R C C I I sites kept_calls kept_inits at k x types (record { values = vs; names = names })
  form_done (c.list types xs) at vs = p.new_list_rel kept_logic S types vs
  form_done x at vs = kept_ends (answer Null)

  done_kept : (x : c.Core ℕ) (vs : List Value) → Kept (done (world_in a d) x vs)
  done_kept (c.at place x) vs = form_done x place vs

  -- what an answer goes on with
  pub going_on : (go : Value → Meaning) → ((u : Value) → Kept (go u)) → Keeps (on_answer go)
  going_on go k y = l.answers kept_logic go go k (λ st. ends y st) (λ st. ends y st) (kept_ends y)

  pub unary_kept : (at : Place) (b : Bool) (one : c.Unary ℕ) (x : Value) → Kept (unary (world_in a d) at b one x)
  unary_kept at b one x = forms.unary_rel kept_logic S R R C C I I sites kept_calls kept_inits at b one x

  pub binary_kept : (at : Place) (one : c.Binary ℕ) (x y : Value) → Kept (binary (world_in a d) at one x y)
  binary_kept at one x y = forms.binary_rel kept_logic S R R C C I I sites kept_calls kept_inits at one x y

  labels_keep : (ns : List ℕ) → Keeps (labelled_all ns)
  labels_keep [] y = kept_ends y
  labels_keep (n ∷ ns) y =
      p.labelled_rel kept_logic n (λ st. labelled_all ns (ends y st)) (λ st. labelled_all ns (ends y st)) (labels_keep ns y)

  branches_keep : (xs : List Case) → switches.Branches kept_logic (branches_of (world_in a d) xs) (branches_of (world_in a d) xs)
  branches_keep xs = forms.branches_rel kept_logic S R R C C I I sites kept_calls kept_inits (c.cases (map v.case xs))

  pub resumed_keeps : (b : Below) (frame : Frame) → Keeps (resumed (world_in a d) b frame)
  resumed_keeps b (f.Rest xs) y =
      going_on _ (l.in_order_rel kept_logic (evals false (forms_of xs.now) (world_in a d)) (evals false (forms_of xs.now) (world_in a d)) (rows false (forms_of xs.now))) y
  resumed_keeps b (f.Choice one other) y =
      going_on _ (λ u. l.chosen_rel kept_logic (is_true u) (part (v.part one.now) (world_in a d) Null) (part (v.part one.now) (world_in a d) Null)
      (part (v.part other.now) (world_in a d) Null) (part (v.part other.now) (world_in a d) Null) (part_kept (v.part one.now) Null) (part_kept (v.part other.now) Null)) y
  resumed_keeps b (f.Let x body) y =
      kept_then (on_answer (λ _. eval (v.core body.now) (world_in a d))) (λ st. on_answer (declare S x) (ends y st))
      (going_on (λ _. eval (v.core body.now) (world_in a d)) (λ _. form_kept (v.core body.now))) (going_on (declare S x) (p.declare_rel kept_logic S x) y)
  resumed_keeps b (f.Operand at is_function one) y =
      going_on _ (forms.unary_rel kept_logic S R R C C I I sites kept_calls kept_inits at is_function (v.unary one)) y
  resumed_keeps b (f.First at one second) y =
      going_on _ (λ x. l.answers kept_logic (λ y. binary (world_in a d) at (v.binary one) x y) (λ y. binary (world_in a d) at (v.binary one) x y) (binary_kept at (v.binary one) x)
      (eval (v.core second.now) (world_in a d)) (eval (v.core second.now) (world_in a d)) (form_kept (v.core second.now))) y
  resumed_keeps b (f.Second at one x) y = going_on _ (binary_kept at (v.binary one) x) y
  resumed_keeps b (f.Row one rest n) y =
      let x = v.core one.now in
      going_on _ (λ u. l.on_answers_rel kept_logic (done (world_in a d) x) (done (world_in a d) x) (done_kept x)
      (evals (joins x) (forms_of rest.now) (world_in a d)) (evals (joins x) (forms_of rest.now) (world_in a d)) (rows (joins x) (forms_of rest.now)) (last_of n b.operands ++ u ∷ [])) y
  resumed_keeps b (f.Test t) y = going_on _ (rest_kept t) y
  resumed_keeps b (f.Body t) y =
      p.after_body_rel kept_logic t.target (next_turn (world_in a d) t) (next_turn (world_in a d) t) (next_kept t) (λ st. ends y st) (λ st. ends y st) (kept_ends y)
  resumed_keeps b (f.Update t) y =
      p.after_update_rel kept_logic t.target (loop_of (world_in a d) t) (loop_of (world_in a d) t) (loop_kept t) (λ st. ends y st) (λ st. ends y st) (kept_ends y)
  resumed_keeps b f.Returning y = going_on _ (λ x. kept_ends (returns x)) y
  resumed_keeps b (f.Labelled one) y = labels_keep (labels (v.core one.now)) y
  resumed_keeps b (f.Is t) y = going_on _ (p.is_type_rel kept_logic S (ty t.now)) y
  resumed_keeps b (f.As at t) y = going_on _ (p.as_type_rel kept_logic S at (ty t.now)) y
  resumed_keeps b (f.Switch x) y =
      going_on _ (switches.switch_rel kept_logic S x.at x.target (branches_of (world_in a d) x.cases.now) (branches_of (world_in a d) x.cases.now) (branches_keep x.cases.now)) y
  resumed_keeps b (f.Case x is_empty behind) y =
      let w = world_in a d in
      let all = branches_of w x.cases.now in
      let rest = branches_of w behind.now in
      let falls = case_falls w x is_empty behind.now in
      switches.after_cases_rel kept_logic x.target (case_from w x) (case_from w x) (switches.from_case_rel kept_logic S x.at x.target all all (branches_keep x.cases.now))
      (λ st. on_answer (λ _. falls) (ends y st)) (λ st. on_answer (λ _. falls) (ends y st))
      (going_on (λ _. falls) (λ _. switches.falls_to_rel kept_logic S x.at is_empty rest rest (branches_keep behind.now)
      (s.run_cases S x.at rest) (s.run_cases S x.at rest) (switches.run_cases_rel kept_logic S x.at rest rest (branches_keep behind.now))) y)
  resumed_keeps b (f.Refused place attempt rest value) y =
      let w = world_in a d in
      let further = s.handled S (clauses (c.handlers (map v.handler rest.now)) w) value place in
      p.finally_rel kept_logic (part (v.part (out-Attempt attempt.now).last) w Null) (part (v.part (out-Attempt attempt.now).last) w Null) (part_kept (v.part (out-Attempt attempt.now).last) Null)
      (λ st. on_answer (λ _. further) (ends y st)) (λ st. on_answer (λ _. further) (ends y st))
      (going_on (λ _. further) (λ _. forms.handled_rel kept_logic S R R C C I I sites kept_calls kept_inits (c.handlers (map v.handler rest.now)) value place) y)
  resumed_keeps b (f.Trying attempt) y =
      let w = world_in a d in
      let handlers = c.handlers (map v.handler (out-Attempt attempt.now).handlers.items) in
      p.finally_rel kept_logic (part (v.part (out-Attempt attempt.now).last) w Null) (part (v.part (out-Attempt attempt.now).last) w Null) (part_kept (v.part (out-Attempt attempt.now).last) Null)
      (λ st. s.caught_by S (clauses handlers w) (ends y st)) (λ st. s.caught_by S (clauses handlers w) (ends y st))
      (p.caught_by_rel kept_logic S (clauses handlers w) (clauses handlers w) (forms.handled_rel kept_logic S R R C C I I sites kept_calls kept_inits handlers)
      (λ st. ends y st) (λ st. ends y st) (kept_ends y))
  resumed_keeps b (f.Handling last around) y =
      p.finally_rel kept_logic (part (v.part last.now) (world_in a d) Null) (part (v.part last.now) (world_in a d) Null) (part_kept (v.part last.now) Null)
      (λ st. s.forgetting (thrown_of around) (ends y st)) (λ st. s.forgetting (thrown_of around) (ends y st))
      (p.forgetting_rel kept_logic (thrown_of around) (λ st. ends y st) (λ st. ends y st) (kept_ends y))
  resumed_keeps b (f.Ending x value) y = p.then_ends_rel kept_logic (completed x value) (λ st. ends y st) (λ st. ends y st) (kept_ends y)
  resumed_keeps b (f.Applying at passed) y =
      going_on _ (λ u. calls.apply_rel kept_logic S R R C C I I sites kept_calls kept_inits at u (given_of passed b.operands)) y
  resumed_keeps b (f.Answering x) y = going_on _ (λ _. kept_ends (answer x)) y
  resumed_keeps b (f.Caller at is_block n base depth) y =
      let caller = activation_of (last_body b.bodies) (drop base b.under) b.types in
      l.leaving_rel kept_logic at (λ st. returned is_block caller (ends y st)) (λ st. returned is_block caller (ends y st))
      (forms.returned_rel kept_logic S R R C C I I sites kept_calls kept_inits is_block caller (λ st. ends y st) (λ st. ends y st) (kept_ends y))
  resumed_keeps b (f.Restoring base depth) y =
      let caller = activation_of (last_body b.bodies) (drop base b.under) b.types in
      forms.returned_rel kept_logic S R R C C I I sites kept_calls kept_inits false caller (λ st. ends y st) (λ st. ends y st) (kept_ends y)
  resumed_keeps b (f.Settling at x) y =
      l.leaving_rel kept_logic at (λ st. settled x (ends y st)) (λ st. settled x (ends y st)) (p.settled_rel kept_logic x (λ st. ends y st) (λ st. ends y st) (kept_ends y))

mute_mute : (o : Outcome) → mute o ≡ mute (mute o)
mute_mute (ends c st) = refl

resume_from_mute : (a : Around) (b : Below) (fs : List Frame) (o : Outcome) → mute (resume_from a b fs o) ≡ mute (resume_from a b fs (mute o))
resume_from_mute a b [] o = mute_mute o
resume_from_mute a b (x ∷ fs) o =
    resume_from_mute a (below b x) fs (resumed (world_in a b.depth) b x o)
    ∙ ap (λ o. mute (resume_from a (below b x) fs o)) (keeps_mute (resumed (world_in a b.depth) b x) (resumed_keeps a b.depth b x) o)
    ∙ sym (resume_from_mute a (below b x) fs (resumed (world_in a b.depth) b x (mute o)))

-- outcomes that differ in events alone are resumed alike
pub quiet : (a : Around) (b : Below) (fs : List Frame) (o o' : Outcome) → mute o ≡ mute o' → mute (resume a b fs o) ≡ mute (resume a b fs o')
quiet a b fs o o' e =
    resume_from_mute a b (reverse fs) o ∙ ap (λ o. mute (resume_from a b (reverse fs) o)) e ∙ sym (resume_from_mute a b (reverse fs) o')

-- what waits for an outcome goes on alike, where that is known but for events
pub answered_goes : (a : Around) (r : Run) (g : Outcome → Outcome) → Keeps g → (o o' : Outcome) → mute o ≡ mute o' → ending a r (g o) ≡ ending a r (g o')
answered_goes a r g k o o' e =
    quiet a (below_of r) r.frames.items (g o) (g o') (keeps_mute g k o ∙ ap (λ o. mute (g o)) e ∙ sym (keeps_mute g k o'))

pub row_answered_goes : (a : Around) (r : Run) (count : ℕ) (g : Outcome → Outcome) → Keeps g → (o o' : Outcome) → mute o ≡ mute o' → ending_row a r count (g o) ≡ ending_row a r count (g o')
row_answered_goes a r count g k o o' e =
    quiet a (record (below_of r) { operands = but_last count r.operands.items }) r.frames.items (g o) (g o') (keeps_mute g k o ∙ ap (λ o. mute (g o)) e ∙ sym (keeps_mute g k o'))

-- ---- sites

-- in production a value that comes to a site passes
pub judged_passes : (b : Bool) (how : OnFailure) (a : Around) (n : ℕ) (u : Value) (st : State) → how ≡ lets_pass
    → judged b (checking_of a) (setting_of a) how n u st ≡ ends (answer u) st
judged_passes true how a n u st e = refl
judged_passes false how a n u st e = ap (λ h. judged false (checking_of a) (setting_of a) h n u st) e

pub site_passes : (a : Around) (d n : ℕ) (u : Value) (st : State) → a.setup.now.annotated ≡ None → mute (site (world_in a d) n u st) ≡ mute (ends (answer u) st)
site_passes a d n u st e =
    ap mute (judged_passes (passes (checking_of a) n (head_of (setting_of a) st.heap u) (arguments_here (setting_of a) (now st))) (failing a.setup.now.annotated) a n u
    (with_event st (tested n (head_of (setting_of a) st.heap u) (arguments_here (setting_of a) (now st)))) (ap failing e))

-- and so does one that passes its check
pub site_admits : (a : Around) (d n : ℕ) (u : Value) (st : State) → passes (checking_of a) n (head_of (setting_of a) st.heap u) (arguments_here (setting_of a) (now st)) ≡ true
    → mute (site (world_in a d) n u st) ≡ mute (ends (answer u) st)
site_admits a d n u st e =
    ap (λ b. mute (judged b (checking_of a) (setting_of a) (failing a.setup.now.annotated) n u
    (with_event st (tested n (head_of (setting_of a) st.heap u) (arguments_here (setting_of a) (now st)))))) e

-- a value that is admitted
pub admitted : (a : Around) (h : Heap) (n : ℕ) (u : Value) (args : List Ty) (st : State) → IsAdmitted a h n u
    → judged (passes (checking_of a) n (head_of (setting_of a) h u) args) (checking_of a) (setting_of a) (failing a.setup.now.annotated) n u st ≡ ends (answer u) st
admitted a h n u args st (inl e) = judged_passes (passes (checking_of a) n (head_of (setting_of a) h u) args) (failing a.setup.now.annotated) a n u st (ap failing e)
admitted a h n u args st (inr e) = ap (λ b. judged b (checking_of a) (setting_of a) (failing a.setup.now.annotated) n u st) (e args)

pub site_admitted : (a : Around) (d n : ℕ) (u : Value) (st : State) → IsAdmitted a st.heap n u → mute (site (world_in a d) n u st) ≡ mute (ends (answer u) st)
site_admitted a d n u st e =
    ap mute (admitted a st.heap n u (arguments_here (setting_of a) (now st))
    (with_event st (tested n (head_of (setting_of a) st.heap u) (arguments_here (setting_of a) (now st)))) e)

pub site_goes : (a : Around) (r : Run) (n : ℕ) (u : Value) → mute (site (world_in a r.depth) n u (seen r)) ≡ mute (ends (answer u) (seen r))
    → does a r (λ w st. ends (answer u) st) ≡ does a r (λ w. site w n u)
site_goes a r n u e = sym (quiet a (below_of r) r.frames.items (site (world_in a r.depth) n u (seen r)) (ends (answer u) (seen r)) e)

-- ---- checks that fail

throws_on : (b : Bool) (object : HeapObject) (g : Value → Meaning) (at : Place) (st : State)
    → on_answer g (on_answer (λ error. ends (throws error at)) (added b object st)) ≡ on_answer (λ error. ends (throws error at)) (added b object st)
throws_on true object g at st = refl
throws_on false object g at st = refl

-- an error that is thrown passes what would go on with an answer
throw_goes : (k : Known) (at : Place) (kind : ThrowKind) (g : Value → Meaning) (st : State) → on_answer g (throw_new k at kind Null st) ≡ throw_new k at kind Null st
throw_goes k at kind g st =
    let object = instance (k.error_class kind) [] (Null ∷ []) in
    throws_on (nat_le (st.heap.used + cost object) st.heap.limit) object g at st

module _ (a : Around) (r : Run) (n : ℕ) (u : Value) where
  abbrev line_of : Line
  line_of = report_line (checking_of a).program n

  abbrev place_of : Place
  place_of = site_place (site_at (checking_of a).program n)

  abbrev thrown : State → Outcome
  thrown = throw_new (known_of a.setup.now.known) place_of TypeError Null

  -- the state as the value has come to the site, and as the failed check is reported
  abbrev come : State
  come = with_event (seen r) (tested n (head_of (setting_of a) r.store u) (arguments_here (setting_of a) (now (seen r))))

  abbrev told : State
  told = with_event (with_line come line_of) (reported n)

  refused : (how : OnFailure) (b : Bool) → how ≡ reports → b ≡ false → judged b (checking_of a) (setting_of a) how n u come ≡ thrown told
  refused how b is_how is_b =
      ap (λ h. judged b (checking_of a) (setting_of a) h n u come) is_how ∙ ap (λ b. judged b (checking_of a) (setting_of a) reports n u come) is_b

  -- a check that fails: it is reported, and an error thrown, whatever would go on with the value
  pub refusal_goes : (m : Run) (go : World → Value → Meaning) (at : Place) → failing a.setup.now.annotated ≡ reports
      → passes (checking_of a) n (head_of (setting_of a) r.store u) (arguments_here (setting_of a) (now (seen r))) ≡ false
      → m ≡ record r { output = m.output } → m.output.items ≡ r.output.items ++ line_of ∷ [] → at ≡ place_of
      → does a m (λ w. throw_new w.setting.known at TypeError Null) ≡ does a r (λ w st. on_answer (go w) (site w n u st))
  refusal_goes m go at is_how is_refused rest output is_at =
      let w = world_in a r.depth in
      ap (λ (m : Run). does a m (λ w. throw_new w.setting.known at TypeError Null)) rest
      ∙ ap (λ (ls : List Line). ending a r (throw_new (known_of a.setup.now.known) at TypeError Null (record (seen r) { output = ls }))) output
      ∙ ap (λ (at : Place). ending a r (throw_new (known_of a.setup.now.known) at TypeError Null (with_line (seen r) line_of))) is_at
      ∙ sym (quiet a (below_of r) r.frames.items (thrown told) (thrown (with_line (seen r) line_of))
      (den_mute thrown (l.throw_new_rel kept_logic (known_of a.setup.now.known) place_of TypeError Null) told))
      ∙ ap (ending a r) (sym (throw_goes (known_of a.setup.now.known) place_of TypeError (go w) told))
      ∙ ap (λ (o : Outcome). ending a r (on_answer (go w) o))
      (sym (refused (failing a.setup.now.annotated) (passes (checking_of a) n (head_of (setting_of a) r.store u) (arguments_here (setting_of a) (now (seen r)))) is_how is_refused))

-- an answer that is answered
pub answer_again : (o : Outcome) → on_answer (λ x st. ends (answer x) st) o ≡ o
answer_again (ends (answer x) st) = refl
answer_again (ends (jumps way n) st) = refl
answer_again (ends (returns x) st) = refl
answer_again (ends (throws x at) st) = refl
answer_again (ends (ended e) st) = refl

-- what goes on with an answer, and then with another
pub answers_join : (go further : Value → Meaning) (o : Outcome) → on_answer (λ x st. on_answer further (go x st)) o ≡ on_answer further (on_answer go o)
answers_join go further (ends (answer x) st) = refl
answers_join go further (ends (jumps way n) st) = refl
answers_join go further (ends (returns x) st) = refl
answers_join go further (ends (throws x at) st) = refl
answers_join go further (ends (ended e) st) = refl

-- a parameter whose value has passed its site
pub bind_goes : (a : Around) (d : ℕ) (b : Below) (fs : List Frame) (g : Given) (qs : List (Parameter ℕ)) (i : ℕ) (body : c.Part ℕ) (x n : ℕ) (u : Value) (st : State)
    → mute (site (world_in a d) n u st) ≡ mute (ends (answer u) st)
    → mute (resume a b fs (on_answer (λ _. binding (world_in a d) g qs i (part body (world_in a d) Null)) (declare (setting_of a) x u st)))
    ≡ mute (resume a b fs (on_answer (λ _. binding (world_in a d) g qs i (part body (world_in a d) Null)) (on_answer (declare (setting_of a) x) (site (world_in a d) n u st))))
bind_goes a d b fs g qs i body x n u st e =
    quiet a b fs _ _
    (sym (keeps_mute (λ o. on_answer (λ _. binding (world_in a d) g qs i (part body (world_in a d) Null)) (on_answer (declare (setting_of a) x) o)) keeps (site (world_in a d) n u st)
    ∙ ap (λ o. mute (on_answer (λ _. binding (world_in a d) g qs i (part body (world_in a d) Null)) (on_answer (declare (setting_of a) x) o))) e
    ∙ sym (keeps_mute (λ o. on_answer (λ _. binding (world_in a d) g qs i (part body (world_in a d) Null)) (on_answer (declare (setting_of a) x) o)) keeps (ends (answer u) st))))
  where
    keeps : Keeps (λ o. on_answer (λ _. binding (world_in a d) g qs i (part body (world_in a d) Null)) (on_answer (declare (setting_of a) x) o))
    keeps y =
        kept_then (on_answer (λ _. binding (world_in a d) g qs i (part body (world_in a d) Null))) (λ st. on_answer (declare (setting_of a) x) (ends y st))
        (going_on a d (λ _. binding (world_in a d) g qs i (part body (world_in a d) Null))
        (λ _. forms.binding_rel kept_logic (S a d) (R a d) (R a d) (C a d) (C a d) (I a d) (I a d) (sites a d) (kept_calls a d) (kept_inits a d) g qs i (part body (world_in a d) Null) (part body (world_in a d) Null) (part_kept a d body Null)))
        (going_on a d (declare (setting_of a) x) (p.declare_rel kept_logic (setting_of a) x) y)
