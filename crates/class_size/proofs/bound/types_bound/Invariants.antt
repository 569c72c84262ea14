use Rattle.std.proofs.Common.{◌≡◌, ℕ, ◌<◌, Some, slice_get}
use Rattle.dart_ir.specs.Ty.{ty}
use Rattle.dart_ir.specs.declared.types.TypeRef.{TypeRef}
use Rattle.dart_ir.specs.declared.class.Classes.{Classes}
use Rattle.class_size.specs.Bound.{AreBounds, IsTypeBound}
use Rattle.class_size.proofs.bound.types_bound.Given as goal

abbrev pub invariant-loop-t : goal.invariant-loop-t
invariant-loop-t l = (k : Classes) → AreBounds k l.bounds → (j : ℕ) (u : TypeRef) → j < l.t-index → slice_get l.types j ≡ Some u → IsTypeBound k l.bound (ty u)
