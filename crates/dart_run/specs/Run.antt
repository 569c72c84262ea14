-- The run of a program.
use Rattle.std.specs.Prelude.{◌≡◌, Option, option_map}
use Rattle.dart_ir.specs.Classes.{IsValid}
use Rattle.core_program.specs.declared.program.CoreProgram.{CoreProgram}
use Rattle.core_program.specs.ProgramView.{program}
use Rattle.evaluation.specs.Checks.{OnFailure, lets_pass, reports}
use Rattle.evaluation.specs.Turn.{Turn, Budget, new_isolate}
use Rattle.machine_frame.specs.declared.around.Around.{Around}
use Rattle.machine_frame.specs.Outside.{setting_of}
use Rattle.machine_turn.specs.Produced.{RunsBare, main_turn}
use Rattle.dart_run.specs.declared.mode.Mode.{Mode}
use Rattle.dart_run.specs.declared.mode.Mode.TheVariants.{Production, Checked}
use Rattle.dart_run.specs.declared.written.Written.{Written}
use Rattle.dart_run.specs.Written.{written}

-- What follows a check that fails: nothing in production, and in checked mode it is reported and an error thrown.
abbrev pub on_failure : Mode → OnFailure
on_failure Production = lets_pass
on_failure Checked = reports

-- The turn that a program's `main` starts in the first isolate, within a budget, where this follows a check that fails; none where the
-- program's constants pass the units. What is around it is the bare program: its table of classes, which is valid, tells subtypes, and natives
-- read its names.
pub record IsRun (x : CoreProgram) (how : OnFailure) (b : Budget) (turn : Option Turn) : Type 0 where
  pub around : Around
  pub bare : RunsBare around (program x) x.names how
  pub valid : IsValid around.program.now.classes
  pub first : around.setup.now.isolate ≡ 0
  pub is_turn : turn ≡ option_map (main_turn (setting_of around) (program x) x.names how b.depth) (new_isolate (program x) b)

-- what is written of that turn, with the names of the program's files and the sites of its checks
pub record IsRunOf (x : CoreProgram) (how : OnFailure) (b : Budget) (made : Written) : Type 0 where
  pub turn : Option Turn
  pub is_run : IsRun x how b turn
  pub is_written : made ≡ written x.units.items (program x).sites turn
