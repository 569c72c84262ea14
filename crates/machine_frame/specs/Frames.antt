-- What the frames of the machine stand for.
use Rattle.std.specs.Prelude.{◌≡◌, Bool, true, false, Option, Some, None, ℕ, ◌+◌, ◌-◌, ◌*◌, List, [], ◌∷◌, ◌++◌, length, map, reverse, take, drop, slice_get}
use Rattle.std.specs.Global.{Vec}
use Rattle.dart_base.specs.declared.place.Place.{Place}
use Rattle.dart_ir.specs.declared.value.Value.{Value}
use Rattle.dart_ir.specs.declared.value.Value.TheVariants.{Null, Bool as Truth, At}
use Rattle.dart_ir.specs.declared.types.TypeRef.{TypeRef}
use Rattle.dart_ir.specs.Ty.{Ty, ty}
use Rattle.dart_store.specs.Heap.{Heap, with_field_at}
use Rattle.core_program.specs.declared.form.Case.{Case}
use Rattle.core_program.specs.declared.form.Core.{Core}
use Rattle.core_program.specs.declared.form.Form.TheViews.{out-Attempt}
use Rattle.core_program.specs.Core as c
use Rattle.core_program.specs.View as v
use Rattle.machine_lookup.specs.Rows.{last_of, but_last, past}
use Rattle.evaluation.specs.State.{State, Activation, Source as SourceOf, a_function, an_initialiser, Thrown, Ending, out_of_steps, out_of_objects, out_of_depth, integer_limit, needs_double, type_limit, Completion, answer, jumps, returns, throws, ended, Outcome, ends, Meaning, Given, Callee, World}
use Rattle.evaluation.specs.Sequence.{on_answer, branch, in_order, on_answers}
use Rattle.evaluation.specs.Parts.{is_join}
use Rattle.evaluation.specs.Variables.{declare, settled}
use Rattle.evaluation.specs.Arguments.{given}
use Rattle.evaluation.specs.Invocation.{leaving, moved, apply}
use Rattle.evaluation.specs.Values.{in_prelude}
use Rattle.evaluation.specs.Creation.{new, new_list}
use Rattle.evaluation.specs.Types.{is_type, as_type}
use Rattle.evaluation.specs.Statements as s
use Rattle.evaluation.specs.Evaluation.{eval, evals, part, clauses, branches, unary, binary, row, returned}
use Rattle.machine_frame.specs.declared.around.Around.{Around}
use Rattle.machine_frame.specs.declared.run.Limit.{Limit}
use Rattle.machine_frame.specs.declared.run.Limit.TheVariants as limit
use Rattle.machine_frame.specs.declared.run.Source.{Source}
use Rattle.machine_frame.specs.declared.run.Source.TheVariants as source
use Rattle.machine_frame.specs.declared.run.Caught.{Caught}
use Rattle.machine_frame.specs.declared.run.Body.{Body}
use Rattle.machine_frame.specs.declared.run.Passed.{Passed}
use Rattle.machine_frame.specs.declared.run.Called.{Called}
use Rattle.machine_frame.specs.declared.run.Turn.{Turn}
use Rattle.machine_frame.specs.declared.run.Switching.{Switching}
use Rattle.machine_frame.specs.declared.run.Frame.{Frame}
use Rattle.machine_frame.specs.declared.run.Frame.TheVariants as f
use Rattle.machine_frame.specs.declared.run.Exit.{Exit}
use Rattle.machine_frame.specs.declared.run.Exit.TheVariants as exit
use Rattle.machine_frame.specs.declared.run.Control.{Control}
use Rattle.machine_frame.specs.declared.run.Control.TheVariants.{Enter, Leave}
use Rattle.machine_frame.specs.declared.run.Run.{Run}
use Rattle.machine_frame.specs.Outside.{world_in}
use Rattle.machine_frame.specs.Labels.{labels, labelled_all}

-- ---- the body at work

abbrev pub source_of : Source → SourceOf
source_of (source.Function f) = a_function f
source_of (source.Initialiser d) = an_initialiser d

abbrev pub thrown_of : Option Caught → Option Thrown
thrown_of None = None
thrown_of (Some c) = Some (record { value = c.value; place = c.place })

-- the type arguments of a body: where it has its own, the last of these
abbrev pub given_types : Option (Vec TypeRef) → List Ty
given_types None = []
given_types (Some ts) = map ty ts.items

abbrev pub types_of : Bool → List (Vec TypeRef) → List Ty
types_of true all = given_types (slice_get all (length all - 1))
types_of false all = []

-- the type arguments of the bodies below it
abbrev pub types_under : Bool → List (Vec TypeRef) → List (Vec TypeRef)
types_under true all = but_last 1 all
types_under false all = all

abbrev pub activation_of : Body → List Value → List (Vec TypeRef) → Activation
activation_of b slots types = record {
  source = source_of b.source;
  owner = b.owner;
  slots = slots;
  this = b.this;
  closure = b.closure;
  types = types_of b.has_types types;
  caught = thrown_of b.caught;
}

-- the body of no function
abbrev pub no_body : Body
no_body = record { source = source.Function 0; owner = 0; this = Null; closure = Null; has_types = false; caught = None }

abbrev pub body_or_none : Option Body → Body
body_or_none None = no_body
body_or_none (Some b) = b

-- the last of the bodies that wait
abbrev pub last_body : List Body → Body
last_body bodies = body_or_none (slice_get bodies (length bodies - 1))

-- the others
abbrev pub bodies_under : List Body → List Body
bodies_under bodies = but_last 1 bodies

abbrev pub callee_with : Called → List Ty → Callee
callee_with c types = record { this = c.this; owner = c.owner; closure = c.closure; types = types }

abbrev pub callee_of : Called → Callee
callee_of c = callee_with c []

-- the state that clauses see, with no event
abbrev pub seen : Run → State
seen r = record {
  left = r.left;
  activation = activation_of r.body (drop r.base r.slots.items) r.types.items;
  heap = r.store;
  ports = [];
  output = r.output.items;
  events = [];
}

-- what is given to a call
abbrev pub given_of : Passed → List Value → Given
given_of g operands = given (v.names g.names.now) (past g.skip (last_of g.count operands))

-- ---- frames

-- what lies below the frame at hand: how deep calls may nest, the slots, the type arguments and the bodies of the callers, and what
-- waits for the end of its row
pub record Below : Type 0 where
  pub depth : ℕ
  pub under : List Value
  pub operands : List Value
  pub types : List (Vec TypeRef)
  pub bodies : List Body

abbrev pub below_of : Run → Below
below_of r = record {
  depth = r.depth;
  under = take r.base r.slots.items;
  operands = r.operands.items;
  types = types_under r.body.has_types r.types.items;
  bodies = r.callers.items;
}

abbrev pub forms_of : List Core → c.Cores ℕ
forms_of forms = c.cores (map v.core forms)

abbrev pub loop_of : World → Turn → Meaning
loop_of w t =
    s.loop w.setting t.target t.copies.now (part (v.part t.condition.now) w (Truth true)) (part (v.part t.update.now) w Null)
    (part (v.part t.body.now) w Null)

-- the update of a turn, and the next one
abbrev pub updated : World → Turn → Outcome → Outcome
updated w t o = s.after_update t.target (loop_of w t) o

-- what follows a turn's body
abbrev pub next_turn : World → Turn → Meaning
next_turn w t = s.going_on w.setting t.target t.copies.now (part (v.part t.update.now) w Null) (loop_of w t)

-- what follows a turn's condition
abbrev pub tested : World → Turn → Value → Meaning
tested w t x =
    branch x (s.body_of_turn w.setting t.target t.copies.now (part (v.part t.update.now) w Null) (part (v.part t.body.now) w Null) (loop_of w t))
    s.done

-- cases as what they do
abbrev pub branches_of : World → List Case → List s.Branch
branches_of w cases = branches (c.cases (map v.case cases)) w

-- the case of the number, and what follows it
abbrev pub case_from : World → Switching → ℕ → Meaning
case_from w x = s.from_case w.setting x.at x.target (branches_of w x.cases.now)

-- cases of a switch, the first of which is entered
abbrev pub cases_run : World → Switching → List Case → Meaning
cases_run w x cases = s.run_cases w.setting x.at (branches_of w cases)

-- what follows the statements of a case
abbrev pub case_falls : World → Switching → Bool → List Case → Meaning
case_falls w x is_empty behind = s.falls_to w.setting x.at is_empty (branches_of w behind) (cases_run w x behind)

abbrev pub joins_of : c.Form ℕ → Bool
joins_of (c.row job forms names) = is_join job
joins_of form = false

-- whether a form is a string with parts
abbrev pub joins : c.Core ℕ → Bool
joins (c.at place form) = joins_of form

abbrev pub done_of : c.Form ℕ → Place → World → List Value → Meaning
done_of (c.row job forms names) at w vs = row w at job names vs
done_of (c.new k f types forms names) at w vs = new w at k f types (given names vs)
done_of (c.list types forms) at w vs = new_list w.setting types vs
done_of form at w vs = λ st. ends (answer Null) st

-- the end of a row
abbrev pub done : World → c.Core ℕ → List Value → Meaning
done w (c.at place form) = done_of form place w

abbrev pub limit_of : Limit → Ending
limit_of limit.OutOfSteps = out_of_steps
limit_of limit.OutOfObjects = out_of_objects
limit_of limit.OutOfDepth = out_of_depth
limit_of limit.IntegerLimit = integer_limit
limit_of limit.NeedsDouble = needs_double
limit_of limit.TypeLimit = type_limit

-- how a form is left, with the run's answer
abbrev pub completed : Exit → Value → Completion
completed exit.Answered x = answer x
completed (exit.Jumps way target) x = jumps way target
completed exit.Returns x = returns x
completed (exit.Throws place) x = throws x place
completed (exit.Over l) x = ended (limit_of l)

-- how a call at the place is left, where its body is left so
abbrev pub moved_to : Place → Completion → Completion
moved_to at (throws x place) = throws x (moved (in_prelude place) (in_prelude at) at place)
moved_to at how = how

-- what a frame makes of the outcome that it waits for
abbrev pub resumed : World → Below → Frame → Outcome → Outcome
resumed w b (f.Rest forms) o = on_answer (in_order (evals false (forms_of forms.now) w)) o
resumed w b (f.Choice first second) o =
    on_answer (λ x. branch x (part (v.part first.now) w Null) (part (v.part second.now) w Null)) o
resumed w b (f.Let x body) o = on_answer (λ _. eval (v.core body.now) w) (on_answer (declare w.setting x) o)
resumed w b (f.Operand at is_function one) o = on_answer (unary w at is_function (v.unary one)) o
resumed w b (f.First at one second) o =
    on_answer (λ x st. on_answer (λ y. binary w at (v.binary one) x y) (eval (v.core second.now) w st)) o
resumed w b (f.Second at one x) o = on_answer (λ y. binary w at (v.binary one) x y) o
resumed w b (f.Row one rest n) o =
    on_answer (λ x. on_answers (done w (v.core one.now)) (evals (joins (v.core one.now)) (forms_of rest.now) w) (last_of n b.operands ++ x ∷ [])) o
resumed w b (f.Test t) o = on_answer (tested w t) o
resumed w b (f.Body t) o = s.after_body t.target (next_turn w t) o
resumed w b (f.Update t) o = updated w t o
resumed w b f.Returning o = on_answer (λ x st. ends (returns x) st) o
resumed w b (f.Labelled one) o = labelled_all (labels (v.core one.now)) o
resumed w b (f.Is t) o = on_answer (is_type w.setting (ty t.now)) o
resumed w b (f.As at t) o = on_answer (as_type w.setting at (ty t.now)) o
resumed w b (f.Switch x) o = on_answer (s.switch w.setting x.at x.target (branches_of w x.cases.now)) o
resumed w b (f.Case x is_empty behind) o =
    s.after_cases x.target (case_from w x) (on_answer (λ _. case_falls w x is_empty behind.now) o)
resumed w b (f.Refused place attempt rest value) o =
    s.finally (part (v.part (out-Attempt attempt.now).last) w Null)
    (on_answer (λ _. s.handled w.setting (clauses (c.handlers (map v.handler rest.now)) w) value place) o)
resumed w b (f.Trying attempt) o =
    s.finally (part (v.part (out-Attempt attempt.now).last) w Null)
    (s.caught_by w.setting (clauses (c.handlers (map v.handler (out-Attempt attempt.now).handlers.items)) w) o)
resumed w b (f.Handling last around) o = s.finally (part (v.part last.now) w Null) (s.forgetting (thrown_of around) o)
resumed w b (f.Ending x value) o = s.then_ends (completed x value) o
resumed w b (f.Applying at passed) o = on_answer (λ x. apply w at x (given_of passed b.operands)) o
resumed w b (f.Answering x) o = on_answer (λ _ st. ends (answer x) st) o
resumed w b (f.Caller at is_block n base depth) o =
    leaving at (returned is_block (activation_of (last_body b.bodies) (drop base b.under) b.types) o)
resumed w b (f.Restoring base depth) o = returned false (activation_of (last_body b.bodies) (drop base b.under) b.types) o
resumed w b (f.Settling at d) o = leaving at (settled d o)

-- what lies below a frame
abbrev pub below : Below → Frame → Below
below b (f.Row one rest n) = record b { operands = but_last n b.operands }
below b (f.Applying at passed) = record b { operands = but_last passed.count b.operands }
below b (f.Caller at is_block n base depth) = record {
  depth = depth;
  under = take base b.under;
  operands = but_last n b.operands;
  types = types_under (last_body b.bodies).has_types b.types;
  bodies = bodies_under b.bodies;
}
below b (f.Restoring base depth) = record {
  depth = depth;
  under = take base b.under;
  operands = b.operands;
  types = types_under (last_body b.bodies).has_types b.types;
  bodies = bodies_under b.bodies;
}
below b frame = b

-- what the frames make of it, the topmost first
abbrev pub resume_from : Around → Below → List Frame → Outcome → Outcome
resume_from a b [] o = o
resume_from a b (f ∷ fs) o = resume_from a (below b f) fs (resumed (world_in a b.depth) b f o)

abbrev pub resume : Around → Below → List Frame → Outcome → Outcome
resume a b fs o = resume_from a b (reverse fs) o

-- ---- what comes next

abbrev pub outcome_of : World → Control → Value → Meaning
outcome_of w (Enter one) x st = eval (v.core one.now) w st
outcome_of w (Leave how) x st = ends (completed how x) st

-- the events aside
abbrev pub mute : Outcome → Outcome
mute (ends c st) = ends c (record st { events = [] })

-- how the run ends from here
abbrev pub going : Around → Run → Control → Outcome
going a r c =
    mute (resume a (below_of r) r.frames.items (outcome_of (world_in a r.depth) c r.answer (seen r)))

-- how it ends where the form at work ends so
abbrev pub ending : Around → Run → Outcome → Outcome
ending a r o = mute (resume a (below_of r) r.frames.items o)

-- the same without the last n operands
abbrev pub ending_row : Around → Run → ℕ → Outcome → Outcome
ending_row a r n o = mute (resume a (record (below_of r) { operands = but_last n r.operands.items }) r.frames.items o)

-- the same, where the form at work means this
abbrev pub does : Around → Run → (World → Meaning) → Outcome
does a r meaning = ending a r (meaning (world_in a r.depth) (seen r))

-- the same without the last n operands
abbrev pub does_row : Around → Run → ℕ → (World → Meaning) → Outcome
does_row a r n meaning = ending_row a r n (meaning (world_in a r.depth) (seen r))

-- how much the machine has before it at most: what is entered takes a step, what is left may enter something else, and some frames
-- may put others in their place
abbrev pub weight : Control → ℕ
weight (Enter one) = 2
weight (Leave (exit.Over e)) = 1
weight (Leave how) = 5

abbrev pub frame_weight : Frame → ℕ
frame_weight (f.Row one rest n) = 6
frame_weight (f.First at one second) = 6
frame_weight (f.Second at one x) = 6
frame_weight (f.Applying at passed) = 4
frame_weight (f.Test t) = 2
frame_weight frame = 1

abbrev pub load : List Frame → ℕ
load [] = 0
load (f ∷ fs) = frame_weight f + load fs

abbrev pub room : Run → ℕ
room r = 16 * r.left + load r.frames.items

abbrev pub work : Run → Control → ℕ
work r c = 16 * r.left + load r.frames.items + weight c

-- a heap in which a cell holds the value; what is no object is no cell
abbrev pub with_cell : Heap → Value → Value → Heap
with_cell h (At r) value = with_field_at h r.0 0 value
with_cell h cell value = h

-- what adding an object comes to
abbrev pub thrown_or_full : Option Value → Place → Completion
thrown_or_full None at = ended out_of_objects
thrown_or_full (Some x) at = throws x at

abbrev pub value_or_full : Option Value → Completion
value_or_full None = ended out_of_objects
value_or_full (Some x) = answer x

-- nothing but the slots of the body at work, the store and the answer differs
abbrev pub IsBeside : Run → Run → Type 0
IsBeside old new = (new.frames.items ≡ old.frames.items) × (take new.base new.slots.items ≡ take old.base old.slots.items) × (new.base ≡ old.base)
    × (new.operands.items ≡ old.operands.items) × (new.body ≡ old.body) × (new.depth ≡ old.depth) × (new.left ≡ old.left)
    × (new.output.items ≡ old.output.items) × (new.types.items ≡ old.types.items) × (new.callers.items ≡ old.callers.items)
