-- Turns of a loop, cases of a switch, and calls that come again.
use Rattle.std.proofs.Common.{◌≡◌, ◌≢◌, ℕ, ◌-◌, List, map, drop, Option, true, ◌∙◌}
use Rattle.dart_ir.specs.declared.value.Value.TheVariants.{Null, Bool as Truth}
use Rattle.core_program.specs.View as v
use Rattle.core_program.specs.Core.{Part}
use Rattle.core_program.specs.Core as c
use Rattle.evaluation.specs.State.{State, ended, out_of_steps, ends, Given}
use Rattle.evaluation.specs.Sequence.{on_answer, branch}
use Rattle.evaluation.specs.Evaluation.{part}
use Rattle.evaluation.specs.Statements.{done, body_of_turn, loop, run_cases, after_cases}
use Rattle.evaluation.specs.Arguments.{alone}
use Rattle.evaluation.specs.Classes.{member}
use Rattle.dart_base.specs.declared.place.Place.{Place}
use Rattle.dart_ir.specs.declared.class.Role.{Role}
use Rattle.dart_ir.specs.declared.class.Role.TheVariants.{Method}
use Rattle.dart_ir.specs.declared.value.Value.{Value}
use Rattle.evaluation.specs.Invocation.{apply, applied, callable, invocation, told, missing_from}
use Rattle.evaluation.proofs.Loops.{loops_unroll}
use Rattle.evaluation.proofs.Rounds.{calls_unroll, switches_unroll, missing_unrolls}
use Rattle.machine_frame.specs.declared.around.Around.{Around}
use Rattle.machine_frame.specs.declared.run.Turn.{Turn}
use Rattle.machine_frame.specs.declared.run.Switching.{Switching}
use Rattle.machine_frame.specs.Outside.{checking_of, failing, setting_of, world_in}
use Rattle.machine_frame.specs.Frames.{loop_of, tested, branches_of, case_from}
use Rattle.machine_frame.proofs.Steps.{enters, enters_not}

module _ (a : Around) (d : ℕ) (t : Turn) (st : State) where
  pub loop_begins : st.left ≢ 0 → loop_of (world_in a d) t st
      ≡ on_answer (tested (world_in a d) t) (part (v.part t.condition.now) (world_in a d) (Truth true) (record st { left = st.left - 1 }))
  loop_begins h =
      loops_unroll (checking_of a) (setting_of a) (failing a.setup.now.annotated) d t.target t.copies.now (v.part t.condition.now) (v.part t.update.now) (v.part t.body.now) (Truth true) Null Null st
      ∙ enters (λ st. on_answer (tested (world_in a d) t) (part (v.part t.condition.now) (world_in a d) (Truth true) st)) st h

  pub loop_stops : st.left ≡ 0 → loop_of (world_in a d) t st ≡ ends (ended out_of_steps) (record st { left = 0 })
  loop_stops h =
      loops_unroll (checking_of a) (setting_of a) (failing a.setup.now.annotated) d t.target t.copies.now (v.part t.condition.now) (v.part t.update.now) (v.part t.body.now) (Truth true) Null Null st
      ∙ enters_not (λ st. on_answer (tested (world_in a d) t) (part (v.part t.condition.now) (world_in a d) (Truth true) st)) st h

pub apply_begins : (a : Around) (d : ℕ) (at : Place) (v : Value) (g : Given) (st : State)
    → apply (world_in a d) at v g st ≡ applied (world_in a d) at v g (λ u. apply (world_in a d) at u g) (callable st.heap v) st
apply_begins a d at v g st = calls_unroll (checking_of a) (setting_of a) (failing a.setup.now.annotated) d at v g st

pub case_begins : (a : Around) (d : ℕ) (x : Switching) (i : ℕ) (st : State)
    → case_from (world_in a d) x i st ≡ after_cases x.target (case_from (world_in a d) x) (run_cases (setting_of a) x.at (drop i (branches_of (world_in a d) x.cases.now)) st)
case_begins a d x i st = switches_unroll (checking_of a) (setting_of a) (failing a.setup.now.annotated) d x.at x.target (c.cases (map v.case x.cases.now)) i st

pub missing_begins : (a : Around) (d : ℕ) (at : Place) (class : Option ℕ) (role : Role) (name : ℕ) (this : Value) (g : Given) (st : State)
    → missing_from (world_in a d) at class role name this g st
    ≡ on_answer (told (world_in a d) at (member (setting_of a).program class (setting_of a).known.no_such_method Method) this
    (λ i. missing_from (world_in a d) at class Method (setting_of a).known.no_such_method this (alone i))) (invocation (setting_of a) role name g st)
missing_begins a d at class role name this g st = missing_unrolls (checking_of a) (setting_of a) (failing a.setup.now.annotated) d at class role name this g st

pub form_loop_stops : (a : Around) (d n : ℕ) (xs : List ℕ) (condition update body : Part ℕ) (st : State) → st.left ≡ 0
    → loop (setting_of a) n xs (part condition (world_in a d) (Truth true)) (part update (world_in a d) Null) (part body (world_in a d) Null) st
    ≡ ends (ended out_of_steps) (record st { left = 0 })
form_loop_stops a d n xs condition update body st h =
    loops_unroll (checking_of a) (setting_of a) (failing a.setup.now.annotated) d n xs condition update body (Truth true) Null Null st
    ∙ enters_not (λ st. on_answer (λ v. branch v (body_of_turn (setting_of a) n xs (part update (world_in a d) Null) (part body (world_in a d) Null)
    (loop (setting_of a) n xs (part condition (world_in a d) (Truth true)) (part update (world_in a d) Null) (part body (world_in a d) Null))) done)
    (part condition (world_in a d) (Truth true) st)) st h
