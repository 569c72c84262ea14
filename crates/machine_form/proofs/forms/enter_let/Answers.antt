use Rattle.machine_frame.specs.Frames.{below_of}
use Rattle.machine_frame.specs.declared.run.Frame.TheVariants as f
use Rattle.machine_frame.proofs.Mute.{resumed_keeps}
use Rattle.evaluation.specs.Sequence.{on_answer}
use Rattle.evaluation.specs.Evaluation.{eval}
use Rattle.core_program.specs.View as v
use Rattle.evaluation.specs.Variables.{declare}
use Rattle.machine_form.proofs.Entered.{comes_to, answered_after}
use Rattle.machine_form.proofs.forms.enter_let.Goals as goal

pub returns-in-Some-clause-meaning : goal.returns-in-Some-clause-meaning
returns-in-Some-clause-meaning c =
    comes_to c.args.a c.bind_let.new.run c.bind_let.result _ _
    (answered_after c.args.a c.args.run.now (v.core c.args.value.now) c.in-Some.found c.in-Some.left
    (λ w o. on_answer (λ _. eval (v.core c.args.body.now) w) (on_answer (declare w.setting c.args.var) o)) (resumed_keeps c.args.a c.args.run.now.depth (below_of c.args.run.now) (f.Let c.args.var c.args.body)) c.in-Some.ensures.value) c.bind_let.ensures.meaning
