-- The statements of laws of runs.
use Rattle.std.specs.Prelude.{◌≡◌, ℕ}
use Rattle.core_program.specs.declared.program.CoreProgram.{CoreProgram}
use Rattle.core_program.specs.Alike as alike
use Rattle.core_program.specs.Stripped as stripped
use Rattle.core_program.specs.ProgramView.{program}
use Rattle.evaluation.specs.Checks.{OnFailure, lets_pass, reports, report_line}
use Rattle.evaluation.specs.Turn.{Budget}
use Rattle.turn_text.specs.Transcript.{line_bytes}
use Rattle.laws_checked.specs.Written.{WriteBytesUntil}
use Rattle.dart_run.specs.declared.written.Written.{Written}
use Rattle.dart_run.specs.Run.{IsRunOf}

-- What is written of a program's run, and how it finishes, hangs on the program, on what follows a check that fails and on the budget
-- alone.
abbrev pub RunIsOne : Type 0
RunIsOne = (x : CoreProgram) (how : OnFailure) (b : Budget) (made other : Written) → IsRunOf x how b made → IsRunOf x how b other
    → made ≡ other

-- The checked run writes the same and finishes alike; or it writes the same up to the report of a check of the program that fails.
pub data FollowsRun (x : CoreProgram) (production checked : Written) : Type 0 where
  run_same : checked ≡ production → FollowsRun x production checked
  until_report : (number : ℕ)
      → WriteBytesUntil (line_bytes x.units.items (program x).sites (report_line (program x) number)) production.bytes checked.bytes
      → FollowsRun x production checked

-- The checked run of a program follows its run in production.
abbrev pub CheckedRunsFollow : Type 0
CheckedRunsFollow = (x : CoreProgram) (b : Budget) (made other : Written) → IsRunOf x lets_pass b made → IsRunOf x reports b other
    → FollowsRun x made other

-- They have the same table of names, and are alike once what annotations ask for is gone.
pub record AreAlikeStripped (x y : CoreProgram) : Type 0 where
  pub names : x.names ≡ y.names
  pub alike : alike.program (stripped.program (program x)) ≡ alike.program (stripped.program (program y))

-- In production such programs write the same, and finish alike.
abbrev pub AlikeRunsAreOne : Type 0
AlikeRunsAreOne = (x y : CoreProgram) (b : Budget) (made other : Written) → AreAlikeStripped x y → IsRunOf x lets_pass b made
    → IsRunOf y lets_pass b other → made ≡ other
