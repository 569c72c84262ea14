use Rattle.std.proofs.Common.{ap, ◌∙◌}
use Rattle.evaluation.specs.Invocation as call
use Rattle.machine_frame.specs.Outside.{world_in}
use Rattle.machine_frame.specs.Frames.{seen, mute}
use Rattle.machine_loop.proofs.Operated.{if_some}
use Rattle.machine_form.proofs.rows.operand_answer.Goals as goal

pub returns-clause-value : goal.returns-clause-value
returns-clause-value c =
    let r = c.args.run.now in
    if_some c.operated.result _ _
    (λ q h at. ap (λ g. mute (call.send (world_in c.args.a r.depth) at c.args.name c.args.this g (seen r))) c.in-Some.ensures ∙ h at) c.operated.ensures.value
