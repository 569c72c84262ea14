use Rattle.std.proofs.Common.{sym, ap, ◌∙◌}
use Rattle.dart_ir.specs.declared.value.Value.TheVariants.{Null}
use Rattle.core_program.specs.View as v
use Rattle.core_program.proofs.Views.{view_given}
use Rattle.evaluation.specs.State.{answer, returns, ends}
use Rattle.evaluation.specs.Sequence.{on_answer}
use Rattle.evaluation.specs.Evaluation.{eval, part}
use Rattle.machine_frame.specs.declared.run.Frame.TheVariants as f
use Rattle.machine_frame.specs.Outside.{world_in}
use Rattle.machine_frame.specs.Frames.{seen, below_of, does}
use Rattle.machine_frame.proofs.Mute.{answered_goes, resumed_keeps}
use Rattle.machine_form.proofs.forms.return_of.Goals as goal

pub returns-in-Some-clause-meaning : goal.returns-in-Some-clause-meaning
returns-in-Some-clause-meaning c =
    let a = c.args.a in
    let r = c.args.run.now in
    let w = world_in a r.depth in
    sym (answered_goes a r (λ o. on_answer (λ x st. ends (returns x) st) o) (resumed_keeps a r.depth (below_of r) f.Returning)
    (eval (v.core c.deref.result.now) w (seen r)) (ends (answer c.in-Some.found) (record (seen r) { left = c.in-Some.left })) c.in-Some.ensures.value)
    ∙ ap (λ x. does a r (λ w st. on_answer (λ x st. ends (returns x) st) (eval (v.core x) w st))) c.deref.ensures
    ∙ ap (λ p. does a r (λ w st. on_answer (λ x st. ends (returns x) st) (part p w Null st))) (sym (ap v.part c.in-Given.is ∙ view_given c.in-Given.core))
