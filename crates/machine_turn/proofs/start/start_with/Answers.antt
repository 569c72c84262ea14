use Rattle.std.proofs.Common.{◌∙◌}
use Rattle.evaluation.specs.Sequence.{entering}
use Rattle.evaluation.specs.Invocation.{static_call}
use Rattle.evaluation.specs.Turn.{start_place}
use Rattle.machine_call.proofs.Operand.{does_alone}
use Rattle.machine_turn.proofs.start.start_with.Goals as goal

pub returns : goal.returns
returns c =
    let passed = c.last_operand-passed in
    let pushed = c.in_ok-push_operand.ensures in
    c.in_ok-control.ensures
    ∙ does_alone c.args.a c.args.run.now c.push_operand.new.run c.args.value passed.result
    (λ g w. entering (static_call w (start_place w.setting) c.args.a.program.now.main.0 g)) pushed.pushed pushed.stays passed.ensures.names
    passed.ensures.rest.0 passed.ensures.rest.1
