-- A closure with what it takes along.
use Rattle.std.proofs.Common.{◌≡◌, ℕ, List, ap, ◌∙◌}
use Rattle.dart_ir.specs.declared.value.Value.{Value}
use Rattle.dart_ir.specs.Object.{closure}
use Rattle.dart_ir.specs.Ty.{Ty}
use Rattle.evaluation.specs.State.{now}
use Rattle.evaluation.specs.Classes.{function_at}
use Rattle.evaluation.specs.Values.{arguments_here}
use Rattle.evaluation.specs.Objects.{add}
use Rattle.evaluation.specs.Variables.{cells_for, make_closure}
use Rattle.machine_frame.specs.declared.around.Around.{Around}
use Rattle.machine_frame.specs.declared.run.Run.{Run}
use Rattle.machine_frame.specs.Outside.{setting_of}
use Rattle.machine_frame.specs.Frames.{seen, does}

pub closure_made : (a : Around) (r : Run) (f : ℕ) (types : List Ty) (cells : List Value) → types ≡ arguments_here (setting_of a) (now (seen r))
    → cells ≡ cells_for (setting_of a) r.store (seen r).activation (function_at (setting_of a).program f)
    → does a r (λ w. add (closure f r.body.this types cells)) ≡ does a r (λ w. make_closure w.setting f)
closure_made a r f types cells e h =
    ap (λ ts. does a r (λ w. add (closure f r.body.this ts cells))) e
    ∙ ap (λ vs. does a r (λ w. add (closure f r.body.this (arguments_here (setting_of a) (now (seen r))) vs))) h
