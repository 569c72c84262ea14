use Rattle.std.proofs.Common.{◌≡◌, ap, ◌∙◌}
use Rattle.dart_ir.specs.declared.value.Value.{Value}
use Rattle.evaluation.specs.State.{answer, ends, Meaning, World}
use Rattle.evaluation.specs.Sequence.{on_answer}
use Rattle.evaluation.specs.Evaluation.{site}
use Rattle.machine_frame.specs.Outside.{world_in}
use Rattle.machine_frame.specs.declared.run.Control.{Control}
use Rattle.machine_frame.specs.Frames.{does, ending, going, seen}
use Rattle.machine_frame.proofs.Mute.{answer_again, site_goes}
use Rattle.machine_frame.specs.declared.run.Run.{Run}
use Rattle.machine_value.proofs.Checked.{if_is}
use Rattle.machine_value.proofs.checks.check.Goals as goal

pub returns-in-None-clause-meaning : goal.returns-in-None-clause-meaning
returns-in-None-clause-meaning c =
    let a = c.args.a in
    let passed = c.in_ok-refusal.ensures.passes c.in-None.is in
    c.answer.ensures.meaning
    ∙ ap (λ (r : Run). does a r (λ w st. ends (answer c.args.value) st)) passed.0
    ∙ site_goes a c.args.run.now c.args.number c.args.value passed.1

pub returns-in-Some-clause-meaning : goal.returns-in-Some-clause-meaning
returns-in-Some-clause-meaning c =
    let a = c.args.a in
    let r = c.args.run.now in
    let n = c.args.number in
    let u = c.args.value in
    if_is _ c.in-Some.control (λ (k : Control). (go : World → Value → Meaning) → going a c.refusal.new.run k ≡ does a r (λ w st. on_answer (go w) (site w n u st)))
    c.in_ok-refusal.ensures.refused c.in-Some.is (λ w x st. ends (answer x) st)
    ∙ ap (ending a r) (answer_again (site (world_in a r.depth) n u (seen r)))
