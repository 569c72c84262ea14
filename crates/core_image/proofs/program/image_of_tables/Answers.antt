use Rattle.std.proofs.Common.{◌∙◌, map, ap, List}
use Rattle.dart_ir.specs.declared.class.ClassInfo.{ClassInfo}
use Rattle.dart_ir.specs.declared.class.MemberInfo.{MemberInfo}
use Rattle.core_program.specs.Alike as alike
use Rattle.core_program.specs.ProgramView as v
use Rattle.core_image.proofs.ClassesStay.{image_valid}
use Rattle.core_image.proofs.program.image_of_tables.Goals as goal

pub returns-clause-valid : goal.returns-clause-valid
returns-clause-valid c h =
    image_valid c.args.classes.now _
    (c.in_ok-image_of_classes.ensures ∙ ap (λ (l : List ClassInfo). map alike.class (map v.class l)) c.deref.ensures.value)
    (c.in_ok-image_of_members.ensures ∙ ap (λ (l : List MemberInfo). map alike.member (map v.member l)) c.deref-2.ensures.value)
    (λ i. c.args.classes.now.function.0) h
