use Rattle.machine_frame.specs.Frames.{seen}
use Rattle.machine_frame.proofs.Turns.{loop_begins}
use Rattle.machine_loop.proofs.loops.take_turn.Goals as goal

pub returns-clause-meaning : goal.returns-clause-meaning
returns-clause-meaning c =
    let r = c.args.run.now in
    rw (loop_begins c.args.a r.depth c.args.turn (seen r) c.requires) c.condition.ensures.meaning
