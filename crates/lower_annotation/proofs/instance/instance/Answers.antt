use Rattle.std.proofs.Common.{Err, ap}
use Rattle.lower_annotation.proofs.Texts.{seen-instance, large-instance}
use Rattle.lower_annotation.proofs.instance.instance.Goals as goal

pub returns-in-Ok : goal.returns-in-Ok
returns-in-Ok g c =
    seen-instance (g.S.Surroundings.around c.args.outside.now) c.args.given.now c.args.of.now c.in-Ok.made c.in-Ok.ensures.value c.in-Ok.ensures.fits

pub returns-in-Err-TooLarge : goal.returns-in-Err-TooLarge
returns-in-Err-TooLarge g c =
    large-instance (g.S.Surroundings.around c.args.outside.now) c.args.given.now c.args.of.now (c.in-Err-TooLarge.ensures.too_large (ap Err c.in-Err-TooLarge.field-0-is))
