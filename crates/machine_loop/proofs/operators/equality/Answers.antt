use Rattle.std.proofs.Common.{ap, ◌∙◌}
use Rattle.machine_frame.specs.Outside.{world_in}
use Rattle.machine_frame.specs.Frames.{seen, mute}
use Rattle.machine_loop.proofs.Operated.{compared, if_some}
use Rattle.machine_loop.proofs.operators.equality.Goals as goal

pub returns-clause-value : goal.returns-clause-value
returns-clause-value c =
    let r = c.args.run.now in
    let st = record (seen r) { left = c.args.left } in
    if_some c.operated.result _ _
    (λ q h at. ap mute (compared (world_in c.args.a r.depth) at c.args.x c.args.y c.in-Int.high c.in-Int.low c.in-Int-y.high c.in-Int-y.low st c.in-Int.is c.in-Int-y.is) ∙ h at)
    c.operated.ensures.value
