-- A checked run of a program beside its run in production.
use Rattle.std.proofs.Common.{◌≡◌, ◌∙◌, ℕ, sym, ap, refl, subst, Option, Some, None}
use Rattle.std.specs.Borrow.{Bor}
use Rattle.std.specs.Prelude.{option_map}
use Rattle.core_program.specs.declared.program.CoreProgram.{CoreProgram}
use Rattle.core_program.specs.ProgramView.{program}
use Rattle.evaluation.specs.State.{Setting}
use Rattle.evaluation.specs.Checks.{lets_pass, reports, checking_of}
use Rattle.evaluation.specs.Turn.{Turn, Budget, Isolate, main, new_isolate}
use Rattle.machine_frame.specs.declared.around.Around.{Around}
use Rattle.machine_frame.specs.Outside.{annotated_or, failing, setting_of}
use Rattle.machine_turn.specs.Produced.{main_turn, setting_with}
use Rattle.laws_checked.specs.Written as w
use Rattle.laws_checked.specs.Written.{WriteAlike}
use Rattle.laws_checked.proofs.Written.{turns_write_alike}
use Rattle.dart_run.specs.declared.mode.Mode.{Mode}
use Rattle.dart_run.specs.declared.mode.Mode.TheVariants.{Production, Checked}
use Rattle.dart_run.specs.declared.written.Written.{Written}
use Rattle.dart_run.specs.Written.{written}
use Rattle.dart_run.specs.Run.{IsRunOf, on_failure}
use Rattle.dart_run.specs.Laws.{FollowsRun, run_same, until_report, CheckedRunsFollow}
use Rattle.dart_run.proofs.OneRun.{settings_same}

abbrev written_of : CoreProgram → Option Turn → Written
written_of x turn = written x.units.items (program x).sites turn

turn_follows : (x : CoreProgram) (production checked : Turn) → WriteAlike x.units.items (program x) production checked
    → FollowsRun x (written_of x (Some production)) (written_of x (Some checked))
turn_follows x production checked (w.written_same bytes finish) = run_same (λ i. record { bytes = bytes i; finish = finish i })
turn_follows x production checked (w.until_report number until) = until_report number until

main_follows : (x : CoreProgram) (s : Setting) (depth : ℕ) (o : Option Isolate) →
    FollowsRun x (written_of x (option_map (main_turn s (program x) x.names lets_pass depth) o))
    (written_of x (option_map (main_turn s (program x) x.names reports depth) o))
main_follows x s depth None = run_same refl
main_follows x s depth (Some i) =
    turn_follows x _ _
    (turns_write_alike x.units.items (checking_of (program x) x.names s.is_subtype) (setting_with s (program x) x.names) depth
    (main (program x).main) i)

pub checked_runs_follow : CheckedRunsFollow
checked_runs_follow x b made other r s =
    let made_by = r.is_written ∙ ap (written_of x) r.is_run.is_turn in
    let other_by = s.is_written ∙ ap (written_of x) (s.is_run.is_turn
    ∙ ap (λ w. option_map (main_turn w (program x) x.names reports b.depth) (new_isolate (program x) b))
    (settings_same x reports lets_pass b s.turn r.turn s.is_run r.is_run)) in
    subst (λ made. FollowsRun x made other) (sym made_by)
    (subst (FollowsRun x (written_of x _)) (sym other_by) (main_follows x (setting_of r.is_run.around) b.depth (new_isolate (program x) b)))

-- ---- a run in each mode

abbrev checked_by : CoreProgram → Mode → Option (Bor CoreProgram)
checked_by x Production = None
checked_by x Checked = Some (record { ref_ptr = (0, 0); now = x })

failing_by : (x : CoreProgram) (mode : Mode) → failing (checked_by x mode) ≡ on_failure mode
failing_by x Production = refl
failing_by x Checked = refl

program_by : (x y : CoreProgram) (mode : Mode) → on_failure mode ≡ reports → program (annotated_or y (checked_by x mode)) ≡ program x
program_by x y Production e = absurd cc
program_by x y Checked e = refl

-- what runs in one mode runs in each
pub runs_also : (x : CoreProgram) (mode other : Mode) (b : Budget) (made : Written) → IsRunOf x (on_failure mode) b made
    → (also : Written) × IsRunOf x (on_failure other) b also
runs_also x mode other b made r =
    let run = r.is_run in
    let around : Around = record run.around {
      setup = record { ref_ptr = (0, 0); now = record run.around.setup.now { annotated = checked_by x other } };
    } in
    let turn = option_map (main_turn (setting_of around) (program x) x.names (on_failure other) b.depth) (new_isolate (program x) b) in (
      written_of x turn,
      record {
        turn = turn;
        is_run = record {
          around = around;
          bare = record {
            program = run.bare.program;
            names_same = run.bare.names_same;
            known_same = run.bare.known_same;
            failing_same = failing_by x other;
            checked_same = program_by x run.around.program.now other;
          };
          valid = run.valid;
          first = run.first;
          is_turn = refl;
        };
        is_written = refl;
      },
    )
