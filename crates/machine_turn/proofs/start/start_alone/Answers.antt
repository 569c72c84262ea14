use Rattle.std.proofs.Common.{◌∙◌}
use Rattle.evaluation.specs.Sequence.{entering}
use Rattle.evaluation.specs.Invocation.{static_call}
use Rattle.evaluation.specs.Turn.{start_place}
use Rattle.machine_call.proofs.Operand.{does_nothing}
use Rattle.machine_turn.proofs.start.start_alone.Goals as goal

pub returns : goal.returns
returns c =
    let passed = c.no_operands-passed in
    c.in_ok-control.ensures
    ∙ does_nothing c.args.a c.args.run.now passed.result (λ g w. entering (static_call w (start_place w.setting) c.args.a.program.now.main.0 g)) passed.ensures.names
    passed.ensures.rest.0 passed.ensures.rest.1
