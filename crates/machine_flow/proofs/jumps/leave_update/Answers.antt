use Rattle.std.proofs.Common.{sym, ap}
use Rattle.evaluation.specs.State.{ends}
use Rattle.machine_frame.specs.declared.run.Exit.{Exit}
use Rattle.machine_frame.specs.Frames.{does, completed, updated}
use Rattle.machine_loop.proofs.Turned.{comes_to}
use Rattle.machine_flow.proofs.jumps.leave_update.Goals as goal

pub returns-in-Answered-clause-meaning : goal.returns-in-Answered-clause-meaning
returns-in-Answered-clause-meaning c =
    let r = c.args.run.now in
    comes_to c.args.a c.begin_turn.new.run c.begin_turn.result _ _
    (ap (λ (x : Exit). does c.args.a r (λ w st. updated w c.args.turn (ends (completed x r.answer) st))) (sym c.in-Answered.is)) c.begin_turn.ensures.meaning
