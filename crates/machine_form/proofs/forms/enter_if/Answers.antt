use Rattle.machine_frame.specs.Frames.{below_of}
use Rattle.machine_frame.specs.declared.run.Frame.TheVariants as f
use Rattle.machine_frame.proofs.Mute.{resumed_keeps}
use Rattle.evaluation.specs.Sequence.{on_answer, branch}
use Rattle.evaluation.specs.Evaluation.{part}
use Rattle.core_program.specs.View as v
use Rattle.dart_ir.specs.declared.value.Value.TheVariants.{Null}
use Rattle.machine_form.proofs.Entered.{comes_to, answered_after}
use Rattle.machine_form.proofs.forms.enter_if.Goals as goal

pub returns-in-Some-clause-meaning : goal.returns-in-Some-clause-meaning
returns-in-Some-clause-meaning c =
    comes_to c.args.a c.choose.new.run c.choose.result _ _
    (answered_after c.args.a c.args.run.now (v.core c.args.condition.now) c.in-Some.value c.in-Some.left
    (λ w o. on_answer (λ x. branch x (part (v.part c.args.first.now) w Null) (part (v.part c.args.second.now) w Null)) o) (resumed_keeps c.args.a c.args.run.now.depth (below_of c.args.run.now) (f.Choice c.args.first c.args.second)) c.in-Some.ensures.value) c.choose.ensures.meaning
