use Rattle.machine_frame.specs.Frames.{below_of}
use Rattle.machine_frame.specs.declared.run.Frame.TheVariants as f
use Rattle.machine_frame.proofs.Mute.{resumed_keeps}
use Rattle.evaluation.specs.Sequence.{on_answer}
use Rattle.evaluation.specs.Evaluation.{eval, binary}
use Rattle.core_program.specs.View as v
use Rattle.machine_form.proofs.Entered.{comes_to, answered_after}
use Rattle.machine_form.proofs.operations.enter_binary.Goals as goal

pub returns-in-Some-clause-meaning : goal.returns-in-Some-clause-meaning
returns-in-Some-clause-meaning c =
    comes_to c.args.a c.second_operand.new.run c.second_operand.result _ _
    (answered_after c.args.a c.args.run.now (v.core c.args.first.now) c.in-Some.value c.in-Some.left
    (λ w o. on_answer (λ x st. on_answer (λ y. binary w c.args.at (v.binary c.args.one) x y) (eval (v.core c.args.second.now) w st)) o) (resumed_keeps c.args.a c.args.run.now.depth (below_of c.args.run.now) (f.First c.args.at c.args.one c.args.second)) c.in-Some.ensures.value) c.second_operand.ensures.meaning
