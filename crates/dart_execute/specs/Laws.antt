-- The statement of a law of executions.
use Rattle.std.specs.Prelude.{◌≡◌}
use Rattle.evaluation.specs.Turn.{Budget}
use Rattle.laws_checked.specs.Written.{WriteUntilReport}
use Rattle.scope_load.specs.State.{State}
use Rattle.dart_run.specs.declared.mode.Mode.TheVariants.{Production, Checked}
use Rattle.dart_run.specs.declared.written.Written.{Written}
use Rattle.dart_execute.specs.declared.execution.Execution.{Execution}
use Rattle.dart_execute.specs.declared.execution.Execution.TheVariants.{Ran}
use Rattle.dart_execute.specs.Execution.{Executes}

-- The same becomes of it; or it ran in both modes, and wrote the same up to the report of a check that fails.
pub data FollowsExecution (production checked : Execution) : Type 0 where
  execution_same : checked ≡ production → FollowsExecution production checked
  until_report : (made also : Written) → production ≡ Ran made → checked ≡ Ran also → WriteUntilReport made.bytes also.bytes
      → FollowsExecution production checked

-- What becomes of a loaded program in checked mode follows what becomes of it in production.
abbrev pub CheckedExecutionsFollow : Type 0
CheckedExecutionsFollow = (state : State) (b : Budget) (x y : Execution) → Executes state Production b x → Executes state Checked b y
    → FollowsExecution x y
