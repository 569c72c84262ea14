use Rattle.std.proofs.Common.{sym, ap, ◌∙◌}
use Rattle.dart_ir.specs.declared.value.Value.TheVariants.{Null}
use Rattle.core_program.specs.View as v
use Rattle.core_program.proofs.Views.{view_missing, view_given}
use Rattle.evaluation.specs.Evaluation.{eval, part}
use Rattle.machine_frame.specs.declared.run.Frame.TheVariants as f
use Rattle.machine_frame.specs.Frames.{does, updated}
use Rattle.machine_loop.proofs.Partly.{of_none, of_some, done_resumes, left_resumes}
use Rattle.machine_loop.proofs.Turned.{comes_to}
use Rattle.machine_loop.proofs.loops.update_after.Goals as goal

pub returns-in-Missing-clause-meaning : goal.returns-in-Missing-clause-meaning
returns-in-Missing-clause-meaning c =
    comes_to c.args.a c.begin_turn.new.run c.begin_turn.result _ _
    (ap (λ p. does c.args.a c.args.run.now (λ w st. updated w c.args.turn (part p w Null st))) (sym (ap v.part c.in-Missing.is ∙ view_missing))) c.begin_turn.ensures.meaning

pub returns-in-Ok-None-clause-meaning : goal.returns-in-Ok-None-clause-meaning
returns-in-Ok-None-clause-meaning c =
    let a = c.args.a in
    let r = c.args.run.now in
    comes_to a c.begin_turn-in-Ok-None.new.run c.begin_turn-in-Ok-None.result _ _
    (done_resumes a r c.simple.new.run c.deref.result.now (f.Update c.args.turn) (of_none _ c.in-Ok-None.field-0 c.in-Ok-None.field-0-is c.in-Ok-None.ensures)
    ∙ ap (λ x. does a r (λ w st. updated w c.args.turn (eval (v.core x) w st))) c.deref.ensures
    ∙ ap (λ p. does a r (λ w st. updated w c.args.turn (part p w Null st))) (sym (ap v.part c.in-Given.is ∙ view_given c.in-Given.core))) c.begin_turn-in-Ok-None.ensures.meaning

pub returns-in-Ok-Some-clause-meaning : goal.returns-in-Ok-Some-clause-meaning
returns-in-Ok-Some-clause-meaning c =
    let a = c.args.a in
    let r = c.args.run.now in
    comes_to a c.wait.new.run c.wait.result _ _
    (left_resumes a r c.simple.new.run c.deref.result.now c.in-Ok-Some.more.now (f.Update c.args.turn) (of_some _ _ c.in-Ok-Some.field-0 c.in-Ok-Some.more c.in-Ok-Some.field-0-is c.in-Ok-Some.ensures)
    ∙ ap (λ x. does a r (λ w st. updated w c.args.turn (eval (v.core x) w st))) c.deref.ensures
    ∙ ap (λ p. does a r (λ w st. updated w c.args.turn (part p w Null st))) (sym (ap v.part c.in-Given.is ∙ view_given c.in-Given.core))) c.wait.ensures.meaning
