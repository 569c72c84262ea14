use Rattle.std.proofs.Common.{◌∷◌, [], ap, ◌∙◌}
use Rattle.evaluation.specs.Externals.{native}
use Rattle.machine_frame.specs.Outside.{setting_of}
use Rattle.machine_loop.proofs.operators.read_at_once.Goals as goal

pub returns-in-Some : goal.returns-in-Some
returns-in-Some c = λ at st e.
    ap (λ q. native (setting_of c.args.a) at q (c.args.this ∷ []) st) c.in-ListLength.is ∙ c.in-Some.ensures c.args.a at st e
