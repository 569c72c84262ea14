use Rattle.std.proofs.Common.{◌≡◌, true, subst, rules, arith}
use Rattle.evaluation.specs.State.{Outcome}
use Rattle.evaluation.specs.Sequence.{is_true}
use Rattle.std.specs.Prelude.{IfOk}
use Rattle.machine_frame.specs.Frames.{going}
use Rattle.machine_loop.proofs.Turned.{body_begins}
use Rattle.machine_loop.proofs.loops.decided.Goals as goal

pub returns-clause-meaning : goal.returns-clause-meaning
returns-clause-meaning c =
    let P : Outcome → Type 0 = λ o. IfOk c.enter_part.result (λ k. going c.args.a c.enter_part.new.run k ≡ o) in
    let holds : is_true c.args.value ≡ true = first_of (cc, search rules, grind arith) in
    subst P (body_begins c.args.a c.args.run.now c.push_frame.new.run c.args.turn c.args.value holds c.in_ok-push_frame.ensures.pushed c.in_ok-push_frame.ensures.stays) c.enter_part.ensures.meaning
