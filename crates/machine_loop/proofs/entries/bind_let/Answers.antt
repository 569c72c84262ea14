use Rattle.std.proofs.Common.{ap, ◌∙◌}
use Rattle.evaluation.specs.State.{ends}
use Rattle.machine_frame.specs.Frames.{seen, value_or_full}
use Rattle.machine_loop.proofs.Partly.{let_does}
use Rattle.machine_loop.proofs.Turned.{comes_to}
use Rattle.machine_loop.proofs.entries.bind_let.Goals as goal

pub returns-in-Some-clause-meaning : goal.returns-in-Some-clause-meaning
returns-in-Some-clause-meaning c =
    let made = c.in_ok-declare in
    comes_to c.args.a c.enter_at_once.new.run c.enter_at_once.result _ _
    (let_does c.args.a c.args.run.now c.declare.new.run c.args.var c.args.value c.in-Some.field-0 c.args.body.now
    (made.ensures.declared ∙ ap (λ h. ends (value_or_full h) (seen c.declare.new.run)) c.in-Some.is) made.ensures.beside) c.enter_at_once.ensures.meaning
