use Rattle.std.proofs.Common.{◌∷◌, [], ap, ◌∙◌}
use Rattle.evaluation.specs.Externals.{native}
use Rattle.machine_frame.specs.Outside.{setting_of}
use Rattle.machine_loop.proofs.Operated.{number_at_once, if_some}
use Rattle.machine_loop.proofs.operators.answer_at_once.Goals as goal

pub returns-in-Some : goal.returns-in-Some
returns-in-Some c = λ at st e.
    ap (λ q. native (setting_of c.args.a) at q (c.args.x ∷ c.args.y ∷ []) st) c.in-ObjectEqual.is ∙ c.in-Some.ensures c.args.a c.args.run.now.store at st e

pub returns-in_default : goal.returns-in_default
returns-in_default c =
    if_some c.native_value.result _ _ (λ u h. number_at_once c.args.a c.args.id c.args.x c.args.y c.args.run.now.store u h) c.native_value.ensures

pub returns-in-Some-item_at_once : goal.returns-in-Some-item_at_once
returns-in-Some-item_at_once c = λ at st e.
    ap (λ q. native (setting_of c.args.a) at q (c.args.x ∷ c.args.y ∷ []) st) c.in-ListIndex.is ∙ c.in-Some-item_at_once.ensures c.args.a at st e
