-- Natives of numbers make and move nothing.
use Rattle.std.proofs.Common.{◌≡◌, Option, Some, None, refl}
use Rattle.dart_ir.specs.declared.native.Answer.{Answer}
use Rattle.native_base.specs.Plan.{work}
use Rattle.dart_native.specs.Native.{or_null}

pub number_work : (o : Option Answer) → work (or_null o) ≡ 0
number_work (Some answer) = refl
number_work None = refl
