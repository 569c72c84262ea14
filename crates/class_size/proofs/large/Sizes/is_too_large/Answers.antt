use Rattle.std.proofs.Common.{◌∙◌, ap, Err}
use Rattle.dart_ir.specs.Ty.{ty}
use Rattle.class_size.proofs.Larger.{either_bare, bare_large}
use Rattle.class_size.proofs.large.Sizes.is_too_large.Goals as goal

pub returns-in-Ok : goal.returns-in-Ok
returns-in-Ok c = either_bare c.args.self.now.classes.now (ty c.args.t.now) c.in_ok-above-in-Ok.above c.in-Ok.ensures.fits c.in_ok-above-in-Ok.ensures

pub returns-in-Err-TooLarge : goal.returns-in-Err-TooLarge
returns-in-Err-TooLarge c = bare_large c.args.self.now.classes.now (ty c.args.t.now) (c.instantiate.ensures.too_large (c.in-Err-TooLarge.is ∙ ap Err c.in-Err-TooLarge.field-0-is))
