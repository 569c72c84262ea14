-- The turn that the machine gives of a bare program is that of the program.
use Rattle.std.proofs.Common.{◌≡◌, ◌∙◌, ap, subst, Option, Some, None}
use Rattle.std.specs.Borrow.{Bor}
use Rattle.std.specs.Prelude.{IfSome}
use Rattle.dart_ir.specs.Classes.{IsValid}
use Rattle.core_program.specs.declared.program.CoreProgram.{CoreProgram}
use Rattle.core_program.specs.ProgramView.{program}
use Rattle.evaluation.specs.Checks.{OnFailure, lets_pass, stops, reports}
use Rattle.evaluation.specs.Turn.{Turn, Budget}
use Rattle.machine_frame.specs.declared.around.Around.{Around}
use Rattle.machine_frame.specs.Outside.{annotated_or, failing, world_in}
use Rattle.machine_turn.specs.Turn.{first_turn}
use Rattle.machine_turn.specs.Produced.{RunsBare}
use Rattle.machine_turn.proofs.Produced.{first_turn_is_produced}
use Rattle.dart_run.specs.Run.{IsRun}

abbrev AsksNothing : OnFailure → Type 0
AsksNothing lets_pass = Unit {0}
AsksNothing stops = Unit {0}
AsksNothing reports = ⊥

-- where a check that fails is reported, values are checked by the program that was handed in
pub checked_by : (other x : CoreProgram) (o : Option (Bor CoreProgram)) → IfSome o (λ y. y.now ≡ x) → failing o ≡ reports
    → program (annotated_or other o) ≡ program x
checked_by other x None is e = absurd (subst AsksNothing e tt)
checked_by other x (Some y) is e = ap program is

pub runs : (a : Around) (x : CoreProgram) (how : OnFailure) (b : Budget) (turn : Option Turn) → RunsBare a (program x) x.names how
    → IsValid a.program.now.classes → a.setup.now.isolate ≡ 0 → turn ≡ first_turn (world_in a b.depth) a.program.now b → IsRun x how b turn
runs a x how b turn bare valid first is = record {
  around = a;
  bare = bare;
  valid = valid;
  first = first;
  is_turn = is ∙ first_turn_is_produced a (program x) x.names how bare b.depth b;
}
