use Rattle.std.proofs.Common.{ap, ◌∙◌}
use Rattle.evaluation.specs.Turn.{main}
use Rattle.machine_turn.specs.Turn.{ending, isolate}
use Rattle.machine_turn.proofs.Shown.{taken, turn_is}
use Rattle.machine_turn.proofs.turn.run_turn.Goals as goal

pub returns : goal.returns
returns c =
    let fresh = c.new_run-run in
    let now = c.drive.new.run in
    let shown = c.take_shown-turned in
    turn_is c.args.a c.args.depth (main c.args.a.program.now.main.0) (isolate c.args.steps c.args.store) fresh.result now shown.result c.in_ok-exit.exit
    fresh.ensures.fresh fresh.ensures.seen fresh.ensures.depth (c.in_ok-exit.ensures ∙ c.in_ok-start.ensures)
    (taken c.args.a shown.result now c.in_ok-exit.exit shown.ensures.output (ap ending shown.ensures.end ∙ c.in_ok-end.ensures) shown.ensures.left.0 shown.ensures.left.1)
