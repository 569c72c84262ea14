use Rattle.machine_frame.specs.declared.run.Frame.TheVariants as f
use Rattle.machine_frame.proofs.Mute.{resumed_keeps}
use Rattle.std.proofs.Common.{◌≡◌, ◌∙◌, Bool, true, false, sym, ap}
use Rattle.core_program.specs.View as v
use Rattle.evaluation.specs.Sequence.{on_answer}
use Rattle.evaluation.specs.Parts.{form_of, is_closure}
use Rattle.evaluation.specs.Evaluation.{eval, unary, before_operand}
use Rattle.machine_frame.specs.Frames.{below_of, does}
use Rattle.machine_form.proofs.Entered.{comes_to, answered_after}
use Rattle.machine_form.proofs.operations.enter_unary.Goals as goal

pub returns-then-is_closure-clause-meaning : goal.returns-then-is_closure-clause-meaning
returns-then-is_closure-clause-meaning c =
    let x = v.core c.args.operand.now in
    let closure : is_closure (form_of x) ≡ true = cc in
    comes_to c.args.a c.enter_function.new.run c.enter_function.result _ _
    (ap (λ (b : Bool). does c.args.a c.args.run.now (λ w st. on_answer (unary w c.args.at b (v.unary c.args.one)) (before_operand w b (v.unary c.args.one) (eval x w) st))) (sym closure)) c.enter_function.ensures.meaning

pub returns-in-None-clause-meaning : goal.returns-in-None-clause-meaning
returns-in-None-clause-meaning c =
    let x = v.core c.args.operand.now in
    let closure : is_closure (form_of x) ≡ false = cc in
    comes_to c.args.a c.wait_operand.new.run c.wait_operand.result _ _
    (ap (λ (b : Bool). does c.args.a c.args.run.now (λ w st. on_answer (unary w c.args.at b (v.unary c.args.one)) (before_operand w b (v.unary c.args.one) (eval x w) st))) (sym closure)) c.wait_operand.ensures.meaning

pub returns-in-Some-clause-meaning : goal.returns-in-Some-clause-meaning
returns-in-Some-clause-meaning c =
    let x = v.core c.args.operand.now in
    let closure : is_closure (form_of x) ≡ false = cc in
    comes_to c.args.a c.finish_unary.new.run c.finish_unary.result _ _
    (answered_after c.args.a c.args.run.now x c.in-Some.value c.in-Some.left (λ w o. on_answer (unary w c.args.at false (v.unary c.args.one)) o) (resumed_keeps c.args.a c.args.run.now.depth (below_of c.args.run.now) (f.Operand c.args.at false c.args.one)) c.in-Some.ensures.value
    ∙ ap (λ (b : Bool). does c.args.a c.args.run.now (λ w st. on_answer (unary w c.args.at b (v.unary c.args.one)) (before_operand w b (v.unary c.args.one) (eval x w) st))) (sym closure)) c.finish_unary.ensures.meaning
