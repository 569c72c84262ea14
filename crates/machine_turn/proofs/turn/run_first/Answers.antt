use Rattle.std.proofs.Common.{Some, ap, ◌∙◌}
use Rattle.core_program.specs.declared.program.CoreProgram.{CoreProgram}
use Rattle.core_program.specs.ProgramView as p
use Rattle.machine_frame.specs.Outside.{world_in}
use Rattle.evaluation.specs.Turn.{new_heap}
use Rattle.machine_turn.specs.Turn.{budget}
use Rattle.machine_turn.proofs.Shown.{first_some, first_none}
use Rattle.machine_turn.proofs.turn.run_first.Goals as goal

pub returns-in-None : goal.returns-in-None
returns-in-None c =
    let made = c.in_ok-made in
    first_none (world_in c.args.a c.args.limits.depth) c.args.a.program.now (budget c.args.limits) made.made c.in-None.is (made.ensures ∙ ap (λ (x : CoreProgram). new_heap (p.program x) c.args.limits.units) c.core-program.ensures)

pub returns-in_ok-turned-in-Some : goal.returns-in_ok-turned-in-Some
returns-in_ok-turned-in-Some c =
    let made = c.in_ok-made in
    ap Some c.in_ok-turned-in-Some.ensures
    ∙ first_some (world_in c.args.a c.args.limits.depth) c.args.a.program.now (budget c.args.limits) c.in-Some.store made.made c.in-Some.is (made.ensures ∙ ap (λ (x : CoreProgram). new_heap (p.program x) c.args.limits.units) c.core-program.ensures)
