use Rattle.std.proofs.Common.{false, sym, ap, ◌∙◌}
use Rattle.evaluation.specs.Sequence.{in_order}
use Rattle.evaluation.specs.Evaluation.{evals}
use Rattle.machine_frame.specs.Frames.{does, forms_of}
use Rattle.machine_loop.proofs.Ordered.{done_goes_on, left_goes_on}
use Rattle.machine_loop.proofs.Partly.{of_none, of_some}
use Rattle.machine_loop.proofs.statements.+go_on.Goals as goal

pub returns-in_ok-control-in-Ok-None-clause-meaning : goal.returns-in_ok-control-in-Ok-None-clause-meaning
returns-in_ok-control-in-Ok-None-clause-meaning t c =
    c.in_ok-control-in-Ok-None.ensures.meaning
    ∙ done_goes_on c.args.a c.args.run.now c.simple.new.run c.in-Some.first.now c.in-Some.rest c.args.last (of_none _ c.in-Ok-None.field-0 c.in-Ok-None.field-0-is c.in-Ok-None.ensures)
    ∙ ap (λ l. does c.args.a c.args.run.now (λ w. in_order (evals false (forms_of l) w) c.args.last)) (sym c.in-Some.ensures)

pub returns-in_ok-control-in-Ok-Some-clause-meaning : goal.returns-in_ok-control-in-Ok-Some-clause-meaning
returns-in_ok-control-in-Ok-Some-clause-meaning t c =
    c.in_ok-control-in-Ok-Some.ensures.meaning
    ∙ left_goes_on c.args.a c.args.run.now c.simple.new.run c.in-Some.first.now c.in-Ok-Some.more.now c.in-Some.rest c.args.last (of_some _ _ c.in-Ok-Some.field-0 c.in-Ok-Some.more c.in-Ok-Some.field-0-is c.in-Ok-Some.ensures)
    ∙ ap (λ l. does c.args.a c.args.run.now (λ w. in_order (evals false (forms_of l) w) c.args.last)) (sym c.in-Some.ensures)
