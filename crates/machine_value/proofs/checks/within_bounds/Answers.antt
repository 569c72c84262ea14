use Rattle.std.proofs.Common.{ℕ, Option, sym, ap, ◌∙◌}
use Rattle.dart_ir.specs.Ty.{ty}
use Rattle.dart_ir.proofs.View.{ty_class}
use Rattle.core_program.specs.Program.{Class, Program}
use Rattle.evaluation.specs.Checks.{bounds_of, keep_bounds, within_bounds}
use Rattle.evaluation.specs.Classes.{class_at, type_list}
use Rattle.dart_ir.specs.Ty.{tys}
use Rattle.machine_frame.specs.Outside.{checking_of}
use Rattle.machine_value.proofs.Checked.{no_bounds}
use Rattle.machine_value.proofs.checks.within_bounds.Goals as goal

pub returns-in-None : goal.returns-in-None
returns-in-None c =
    let k = checking_of c.args.a in
    let ts = type_list (tys c.in-Class.arguments.items) in
    sym (ap (λ x. within_bounds k (ty x)) c.in-Class.is ∙ ap (within_bounds k) (ty_class c.in-Class.class c.in-Class.arguments)
    ∙ ap (λ (q : Program ℕ). keep_bounds k ts ts (bounds_of (class_at q c.in-Class.class.0))) c.requires.checked
    ∙ ap (λ (o : Option (Class ℕ)). keep_bounds k ts ts (bounds_of o)) c.in-None.ensures ∙ no_bounds k ts ts)
