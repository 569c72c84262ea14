use Rattle.std.proofs.Common.{Option, ap, ◌∙◌}
use Rattle.dart_ir.specs.Object.{HeapObject, HeadTy}
use Rattle.dart_ir.specs.Ty.{of_list, ty}
use Rattle.dart_type.specs.Instance.{instance}
use Rattle.evaluation.specs.Checks.{is_of_type}
use Rattle.evaluation.specs.Values.{head_of, object_head}
use Rattle.machine_frame.specs.Outside.{checking_of, setting_of}
use Rattle.machine_frame.proofs.same.has_type.Goals as goal

pub returns-in-Some : goal.returns-in-Some
returns-in-Some c = λ e args.
    let s = setting_of c.args.a in
    let h = c.args.run.now.store in
    ap (λ (head : HeadTy). is_of_type (checking_of c.args.a) head (instance (of_list args) (ty c.args.wanted.now)))
    (ap (head_of s h) c.in-At.is ∙ ap (λ (o : Option HeapObject). object_head s h o) c.in-Some.ensures)
    ∙ c.object_has_type.ensures e h args
