use Rattle.std.proofs.Common.{◌∷◌, [], ap, ◌∙◌}
use Rattle.core_program.specs.View as v
use Rattle.evaluation.specs.Evaluation.{row}
use Rattle.machine_frame.specs.Outside.{world_in}
use Rattle.machine_frame.specs.Frames.{seen, mute}
use Rattle.machine_loop.proofs.Operated.{native_done}
use Rattle.machine_loop.proofs.operators.operation.Goals as goal

pub returns-in-Some-clause-value : goal.returns-in-Some-clause-value
returns-in-Some-clause-value c = λ at.
    let r = c.args.run.now in
    let st = record (seen r) { left = c.args.left } in
    ap (λ q. mute (row (world_in c.args.a r.depth) at (v.job q) [] (c.args.x ∷ c.args.y ∷ []) st)) c.in-Native.is
    ∙ native_done c.args.a r.depth c.in-Native.id c.args.x c.args.y c.in-Some.value st c.in-Some.ensures at

pub returns-in-Some-operated-clause-value : goal.returns-in-Some-operated-clause-value
returns-in-Some-operated-clause-value c = λ at.
    let r = c.args.run.now in
    let st = record (seen r) { left = c.args.left } in
    ap (λ q. mute (row (world_in c.args.a r.depth) at (v.job q) [] (c.args.x ∷ c.args.y ∷ []) st)) c.in-Send.is ∙ c.in-Some-operated.ensures.value at
