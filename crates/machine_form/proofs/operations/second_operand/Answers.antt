use Rattle.machine_frame.specs.Frames.{below_of}
use Rattle.machine_frame.specs.declared.run.Frame.TheVariants as f
use Rattle.machine_frame.proofs.Mute.{resumed_keeps}
use Rattle.evaluation.specs.Sequence.{on_answer}
use Rattle.evaluation.specs.Evaluation.{binary}
use Rattle.core_program.specs.View as v
use Rattle.machine_form.proofs.Entered.{comes_to, answered_after}
use Rattle.machine_form.proofs.operations.second_operand.Goals as goal

pub returns-in-Some-clause-meaning : goal.returns-in-Some-clause-meaning
returns-in-Some-clause-meaning c =
    comes_to c.args.a c.finish_binary.new.run c.finish_binary.result _ _
    (answered_after c.args.a c.args.run.now (v.core c.args.second.now) c.in-Some.other c.in-Some.left
    (λ w o. on_answer (λ y. binary w c.args.at (v.binary c.args.one) c.args.value y) o) (resumed_keeps c.args.a c.args.run.now.depth (below_of c.args.run.now) (f.Second c.args.at c.args.one c.args.value)) c.in-Some.ensures.value) c.finish_binary.ensures.meaning
