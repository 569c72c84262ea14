use Rattle.std.proofs.Common.{◌≡◌, subst}
use Rattle.evaluation.specs.State.{Outcome}
use Rattle.std.specs.Prelude.{IfOk}
use Rattle.machine_frame.specs.Frames.{going}
use Rattle.machine_loop.proofs.Turned.{copied_then}
use Rattle.machine_loop.proofs.loops.update.Goals as goal

pub returns-in-Some-clause-meaning : goal.returns-in-Some-clause-meaning
returns-in-Some-clause-meaning c =
    let P : Outcome → Type 0 = λ o. IfOk c.update_after.result (λ k. going c.args.a c.update_after.new.run k ≡ o) in
    let made = c.in_ok-copy_variables in
    subst P (copied_then c.args.a c.args.run.now c.copy_variables.new.run c.args.turn made.field-0 c.in-Some.field-0 c.in-Some.is made.ensures.copied made.ensures.beside) c.update_after.ensures.meaning
