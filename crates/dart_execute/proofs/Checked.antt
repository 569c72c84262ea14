-- What becomes of a program in checked mode, beside what becomes of it in production.
use Rattle.std.proofs.Common.{List, Bool, true, false, refl, inl, inr}
use Rattle.dart_ir.specs.declared.class.Classes.{Classes}
use Rattle.core_program.specs.declared.program.CoreProgram.{CoreProgram}
use Rattle.core_program.specs.Program as c
use Rattle.core_program.specs.ProgramView as pv
use Rattle.dart_lower.specs.Given.{given_of}
use Rattle.dart_run.specs.declared.mode.Mode.{Mode}
use Rattle.dart_run.specs.declared.mode.Mode.TheVariants.{Production, Checked}
use Rattle.dart_run.specs.declared.written.Written.{Written}
use Rattle.dart_run.specs.Laws as run
use Rattle.dart_run.specs.Laws.{FollowsRun}
use Rattle.dart_run.proofs.Checked.{checked_runs_follow, runs_also}
use Rattle.evaluation.specs.Checks.{site_kind, site_place}
use Rattle.evaluation.specs.Classes.{site_at}
use Rattle.evaluation.specs.Turn.{Budget}
use Rattle.scope_load.specs.State.{State}
use Rattle.scope_program.specs.Program.{Scoping}
use Rattle.translation.specs.Program as p
use Rattle.translation.specs.Surroundings.{Text}
use Rattle.dart_execute.specs.declared.execution.Execution.{Execution}
use Rattle.dart_execute.specs.declared.execution.Execution.TheVariants.{Ran}
use Rattle.dart_execute.specs.Execution.{mentions_isolate, with_names, RunsIf, Follows, ExecutesIn, Executes}
use Rattle.dart_execute.specs.Laws.{FollowsExecution, execution_same, until_report, CheckedExecutionsFollow}
use Rattle.dart_execute.proofs.Once.{alike_executions}

ran_follows : (x : CoreProgram) (made also : Written) → FollowsRun x made also → FollowsExecution (Ran made) (Ran also)
ran_follows x made also (run.run_same e) = execution_same (λ i. Ran (e i))
ran_follows x made also (run.until_report number writes) = until_report made also refl refl (record {
  files = x.units.items;
  place = site_place (site_at (pv.program x) number);
  kind = site_kind (site_at (pv.program x) number);
  writes = writes;
})

pub checked_executions_follow : CheckedExecutionsFollow
checked_executions_follow state b =
    alike_executions Production Checked b FollowsExecution (λ x. execution_same refl)
    (λ x made also r s. ran_follows x made also (checked_runs_follow x b made also r s)) state

-- ---- something becomes of it in each mode

module _ (mode other : Mode) (b : Budget) where
  runs_if_also : (isolates : Bool) (kept texts : List Text) (k : Classes) (of : c.Program Text) (x : Execution)
      → RunsIf isolates kept texts k of mode b x → (y : Execution) × RunsIf isolates kept texts k of other b y
  runs_if_also true kept texts k of x is = (x, is)
  runs_if_also false kept texts k of x (core, made, is, run, e) =
      let (also, ran) = runs_also (with_names kept core) mode other b made run in
      (Ran also, (core, also, is, ran, refl))

  follows_also : (state : State) (kept texts : List Text) (k : Classes) (answer : p.Answer) (x : Execution)
      → Follows state kept texts k mode b answer x → (y : Execution) × Follows state kept texts k other b answer y
  follows_also state kept texts k (p.accepted of) x is = runs_if_also (mentions_isolate state) kept texts k of x is
  follows_also state kept texts k (p.rejected why) x is = (x, is)
  follows_also state kept texts k p.not_built x is = (x, is)

  executes_in_also : (state : State) (s : Scoping) (x : Execution) → ExecutesIn state s mode b x → (y : Execution) × ExecutesIn state s other b y
  executes_in_also state s x (inl is) = (x, inl is)
  executes_in_also state s x (inr (inl is)) = (x, inr (inl is))
  executes_in_also state s x (inr (inr is)) =
      let (y, follows) = follows_also state s.kept s.texts is.classes (p.core (given_of s state is.classes is.main)) x is.follows in
      (y, inr (inr (record { classes = is.classes; main = is.main; table = is.table; starts = is.starts; follows = follows })))

  pub executes_also : (state : State) (x : Execution) → Executes state mode b x → (y : Execution) × Executes state other b y
  executes_also state x (s, is, distinct, found) =
      let (y, found_too) = executes_in_also state s x found in
      (y, (s, is, distinct, found_too))
