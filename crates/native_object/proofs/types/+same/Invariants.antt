-- the types so far are the same
use Rattle.std.proofs.Common.{◌≡◌, drop}
use Rattle.dart_ir.specs.Ty.{tys}
use Rattle.native_object.specs.Identity.{same_types}
use Rattle.native_object.proofs.types.+same.Given as goal

abbrev pub invariant-same_types-loop-i : goal.invariant-same_types-loop-i
invariant-same_types-loop-i l = same_types (tys (drop l.i l.ts)) (tys (drop l.i l.us)) ≡ same_types (tys l.ts) (tys l.us)
