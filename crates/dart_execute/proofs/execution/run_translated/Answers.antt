use Rattle.std.proofs.Common.{◌∙◌, sym, refl, subst, Bool}
use Rattle.dart_run.specs.Run.{IsRunOf, on_failure}
use Rattle.dart_run.specs.declared.mode.Mode.{Mode}
use Rattle.evaluation.specs.Turn.{Budget}
use Rattle.lower_program.specs.Views as views
use Rattle.machine_turn.specs.Turn as turn
use Rattle.dart_execute.specs.Execution.{RunsIf, with_names, allowed, asked_mode}
use Rattle.dart_execute.specs.declared.execution.Execution.TheVariants.{Ran}
use Rattle.dart_execute.proofs.execution.run_translated.Goals as goal

pub returns-in-Ok : goal.returns-in-Ok
returns-in-Ok c a texts is =
    let core = c.in_ok-core.core in
    let made = c.in-Ok.made in
    let options = c.args.options in
    let mode : Mode = asked_mode options.checked in
    subst (λ (isolates : Bool). RunsIf isolates c.args.kept c.args.names c.args.classes (views.program a c.args.translated) mode (allowed options.budget) (Ran made))
    (sym c.if-mentions_isolate.false ∙ c.mentions_isolate.ensures) (
      core,
      made,
      c.in_ok-core.ensures.core a texts is,
      subst (λ (b : Budget). IsRunOf (with_names c.args.kept core) (on_failure mode) b made) c.limits_of.ensures.allowed
          (subst (λ (m : Mode). IsRunOf (with_names c.args.kept core) (on_failure m) (turn.budget c.limits_of.result) made) c.asked_mode-mode.ensures c.in-Ok.ensures),
      refl,
    )
