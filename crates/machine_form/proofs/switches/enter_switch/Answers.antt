use Rattle.core_program.specs.View as v
use Rattle.evaluation.specs.Sequence.{on_answer}
use Rattle.evaluation.specs.Statements as s
use Rattle.machine_frame.specs.Frames.{below_of, branches_of}
use Rattle.machine_frame.specs.declared.run.Frame.TheVariants as f
use Rattle.machine_frame.proofs.Mute.{resumed_keeps}
use Rattle.machine_form.proofs.Entered.{comes_to, answered_after}
use Rattle.machine_form.proofs.switches.enter_switch.Goals as goal

pub returns-in-Some-clause-meaning : goal.returns-in-Some-clause-meaning
returns-in-Some-clause-meaning c =
    let one = c.args.one in
    comes_to c.args.a c.choose_case.new.run c.choose_case.result _ _
    (answered_after c.args.a c.args.run.now (v.core c.args.operand.now) c.in-Some.value c.in-Some.left
    (λ w o. on_answer (s.switch w.setting one.at one.target (branches_of w one.cases.now)) o)
    (resumed_keeps c.args.a c.args.run.now.depth (below_of c.args.run.now) (f.Switch one)) c.in-Some.ensures.value) c.choose_case.ensures.meaning
