use Rattle.std.proofs.Common.{◌≡◌, suc, ◌-◌, List, ◌∷◌, map, sym, ap, ◌∙◌, rules, arith}
use Rattle.dart_ir.specs.declared.value.Value.{Value}
use Rattle.dart_ir.specs.declared.value.Value.TheVariants.{Null}
use Rattle.core_program.specs.View as v
use Rattle.core_program.specs.ProgramView as p
use Rattle.core_program.specs.declared.program.Parameter.{Parameter}
use Rattle.evaluation.specs.State.{Meaning, World}
use Rattle.evaluation.specs.Sequence.{on_answer}
use Rattle.evaluation.specs.Evaluation.{part, binding, site}
use Rattle.machine_frame.specs.declared.run.Control.{Control}
use Rattle.machine_frame.specs.declared.run.Run.{Run}
use Rattle.machine_frame.specs.Frames.{does, given_of, going}
use Rattle.machine_value.proofs.Checked.{if_is, none_if}
use Rattle.machine_call.proofs.Bodies.{none_there}
use Rattle.machine_call.proofs.Bound.{bind_stops, bind_refused, bind_full, bind_goes_on}
use Rattle.machine_call.proofs.Pushed.{comes_to}
use Rattle.machine_call.proofs.parameters.+bind.Goals as goal

pub returns-then-run-eq0-clause-meaning : goal.returns-then-run-eq0-clause-meaning
returns-then-run-eq0-clause-meaning t c =
    bind_stops c.args.a c.args.run.now (given_of c.args.passed c.args.run.now.operands.items) (p.parameter c.args.parameter.now) (map p.parameter c.args.rest.now) c.args.index (v.part c.args.function.now.body) c.if-run-eq0.true

pub returns-in-Some-2-clause-meaning : goal.returns-in-Some-2-clause-meaning
returns-in-Some-2-clause-meaning t c =
    let a = c.args.a in
    let r = c.args.run.now in
    let q = p.parameter c.args.parameter.now in
    let value = c.argument-value.result in
    bind_refused a r (given_of c.args.passed r.operands.items) q (map p.parameter c.args.rest.now) c.args.index (v.part c.args.function.now.body)
    c.refusal.new.run c.in-Some-2.control value c.if-run-eq0.false c.argument-value.ensures
    (if_is c.in_ok-control.field-0 c.in-Some-2.control
    (λ (k : Control). (go : World → Value → Meaning) → going a c.refusal.new.run k ≡ does a (record r { left = r.left - 1 }) (λ w st. on_answer (go w) (site w q.site value st)))
    c.in_ok-control.ensures.refused c.in-Some-2.is)

pub returns-in-None-clause-meaning : goal.returns-in-None-clause-meaning
returns-in-None-clause-meaning t c =
    let r = c.args.run.now in
    let made = c.in_ok-declare in
    let passed = c.in_ok-control.ensures.passes (none_if c.in_ok-control.field-0 c.in_default-2.not-Some) in
    bind_full c.args.a r (given_of c.args.passed r.operands.items) (p.parameter c.args.parameter.now) (map p.parameter c.args.rest.now) c.args.index (v.part c.args.function.now.body)
    c.refusal.new.run passed.0 c.declare.new.run c.argument-value.result made.field-0 c.if-run-eq0.false c.argument-value.ensures passed.1 made.ensures.declared made.ensures.beside c.in-None.is

pub returns-in-None-split_first-clause-meaning : goal.returns-in-None-split_first-clause-meaning
returns-in-None-split_first-clause-meaning t c =
    let a = c.args.a in
    let r = c.args.run.now in
    let m = c.declare.new.run in
    let made = c.in_ok-declare in
    let body = v.part c.args.function.now.body in
    let passed = c.in_ok-control.ensures.passes (none_if c.in_ok-control.field-0 c.in_default-2.not-Some) in
    let next : c.in-Some.next ≡ suc c.args.index = first_of (omega arith, search rules, grind arith) in
    comes_to a c.enter_part.new.run c.enter_part.result _ _
    (ap (λ (l : List Parameter). does a m (λ w. binding w (given_of c.args.passed m.operands.items) (map p.parameter l) c.in-Some.next (part body w Null))) (none_there c.args.rest.now c.in-None-split_first.ensures.cases)
    ∙ bind_goes_on a r (given_of c.args.passed r.operands.items) (p.parameter c.args.parameter.now) (map p.parameter c.args.rest.now) c.args.index body
    c.refusal.new.run passed.0 m c.argument-value.result made.field-0 c.if-run-eq0.false c.argument-value.ensures passed.1 made.ensures.declared made.ensures.beside
    c.in-Some-3.field-0 (given_of c.args.passed m.operands.items) c.in-Some.next c.in-Some-3.is
    (ap (given_of c.args.passed) (made.ensures.beside.3 ∙ ap (λ (x : Run). x.operands.items) passed.0)) next) c.enter_part.ensures.meaning

pub returns-in_ok-control-in-Some-split_first-clause-meaning : goal.returns-in_ok-control-in-Some-split_first-clause-meaning
returns-in_ok-control-in-Some-split_first-clause-meaning t c =
    let a = c.args.a in
    let r = c.args.run.now in
    let m = c.declare.new.run in
    let made = c.in_ok-declare in
    let body = v.part c.args.function.now.body in
    let passed = c.in_ok-control.ensures.passes (none_if c.in_ok-control.field-0 c.in_default-2.not-Some) in
    let rest : c.args.rest.now ≡ c.in-Some-split_first.following.now ∷ c.in-Some-split_first.others.now = first_of (cc, search rules, grind arith) in
    let next : c.in-Some.next ≡ suc c.args.index = first_of (omega arith, search rules, grind arith) in
    c.in_ok-control-in-Some-split_first.ensures.meaning
    ∙ ap (λ (l : List Parameter). does a m (λ w. binding w (given_of c.args.passed m.operands.items) (map p.parameter l) c.in-Some.next (part body w Null))) (sym rest)
    ∙ bind_goes_on a r (given_of c.args.passed r.operands.items) (p.parameter c.args.parameter.now) (map p.parameter c.args.rest.now) c.args.index body
    c.refusal.new.run passed.0 m c.argument-value.result made.field-0 c.if-run-eq0.false c.argument-value.ensures passed.1 made.ensures.declared made.ensures.beside
    c.in-Some-3.field-0 (given_of c.args.passed m.operands.items) c.in-Some.next c.in-Some-3.is
    (ap (given_of c.args.passed) (made.ensures.beside.3 ∙ ap (λ (x : Run). x.operands.items) passed.0)) next
