use Rattle.std.proofs.Common.{◌∙◌, ap}
use Rattle.core_program.specs.Named as with_names
use Rattle.core_program.specs.ProgramView.{text_at}
use Rattle.dart_ir.specs.Ty as dart
use Rattle.lower_annotation.proofs.Texts.{instance-named}
use Rattle.lower_table.proofs.mixin.instance.Goals as goal

pub returns-in-Ok : goal.returns-in-Ok
returns-in-Ok c = λ texts. ap (with_names.ty (text_at texts)) c.in-Ok.ensures.value
    ∙ instance-named (text_at texts) (dart.tys c.args.given.now) (dart.ty c.args.of.now)
