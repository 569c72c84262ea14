use Rattle.std.proofs.Common.{Option, ap, ◌∙◌}
use Rattle.dart_ir.specs.Object.{HeapObject}
use Rattle.evaluation.specs.Values.{head_of, object_head}
use Rattle.machine_frame.specs.Outside.{setting_of}
use Rattle.machine_frame.proofs.sites.plain_class.Goals as goal

pub returns-in-Some-plain_object_class : goal.returns-in-Some-plain_object_class
returns-in-Some-plain_object_class c =
    let s = setting_of c.args.a in
    let h = c.args.run.now.store in
    ap (head_of s h) c.in-At.is ∙ ap (λ (o : Option HeapObject). object_head s h o) c.in-Some.ensures ∙ c.in-Some-plain_object_class.ensures h
