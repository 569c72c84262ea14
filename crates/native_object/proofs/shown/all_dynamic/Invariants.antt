-- all types so far are `dynamic`
use Rattle.std.proofs.Common.{◌≡◌, drop}
use Rattle.dart_ir.specs.Ty.{tys}
use Rattle.native_object.specs.Shown.{all_dynamic}
use Rattle.native_object.proofs.shown.all_dynamic.Given as goal

abbrev pub invariant-loop-t : goal.invariant-loop-t
invariant-loop-t l = all_dynamic (tys (drop l.t-index l.types)) ≡ all_dynamic (tys l.types)
