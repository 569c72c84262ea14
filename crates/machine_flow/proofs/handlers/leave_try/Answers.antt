use Rattle.std.proofs.Common.{◌≡◌, List, map, IfOk, rules, arith, subst}
use Rattle.dart_ir.specs.declared.value.Value.TheVariants.{Null}
use Rattle.core_program.specs.declared.form.Handler.{Handler}
use Rattle.core_program.specs.declared.form.Form.TheViews.{out-Attempt}
use Rattle.core_program.specs.Core as form
use Rattle.core_program.specs.View as v
use Rattle.evaluation.specs.State.{throws, ends}
use Rattle.evaluation.specs.Evaluation.{part, clauses}
use Rattle.evaluation.specs.Statements as s
use Rattle.machine_frame.specs.declared.run.Exit.{Exit}
use Rattle.machine_frame.specs.declared.run.Exit.TheVariants as exit
use Rattle.machine_frame.specs.Frames.{going, does, completed}
use Rattle.machine_flow.proofs.handlers.leave_try.Goals as goal

pub returns-in-Throws-clause-meaning : goal.returns-in-Throws-clause-meaning
returns-in-Throws-clause-meaning c =
    let r = c.args.run.now in
    let attempt = out-Attempt c.args.attempt.now in
    let P : List Handler → Type 0 =
    λ hs. IfOk c.handle.result (λ k. going c.args.a c.handle.new.run k ≡ does c.args.a r (λ w st. s.finally (part (v.part attempt.last) w Null)
    (s.caught_by w.setting (clauses (form.handlers (map v.handler hs)) w) (ends (throws r.answer c.in-Throws.place) st)))) in
    let Q : Exit → Type 0 =
    λ x. IfOk c.handle.result (λ k. going c.args.a c.handle.new.run k ≡ does c.args.a r (λ w st. s.finally (part (v.part attempt.last) w Null)
    (s.caught_by w.setting (clauses (form.handlers (map v.handler attempt.handlers.items)) w) (ends (completed x r.answer) st)))) in
    let same : c.as_slice.result.now ≡ attempt.handlers.items = first_of (cc, search rules, grind arith) in
    let left : exit.Throws c.in-Throws.place ≡ c.args.exit = first_of (cc, search rules, grind arith) in
    subst Q left (subst P same c.handle.ensures.meaning)
