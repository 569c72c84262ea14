use Rattle.std.proofs.Common.{◌≡◌, ◌<◌, List, [], ◌∷◌, length, map, ap, arith}
use Rattle.dart_ir.specs.Ty.{Ty, ty}
use Rattle.dart_ir.specs.declared.types.TypeRef.{TypeRef, Dynamic}
use Rattle.dart_ir.proofs.View.{ty_dynamic}
use Rattle.native_list.specs.List.{type_argument}
use Rattle.native_list.proofs.made.first_type.Goals as goal

-- without a type argument it is `dynamic`
none_given : (types : List TypeRef) → length types < 1 → ty Dynamic ∷ [] ≡ type_argument (map ty types)
none_given [] below = ap (λ (t : Ty). t ∷ []) ty_dynamic
none_given (t ∷ types) below = absurd (omega (arith, below))

pub returns-in-empty : goal.returns-in-empty
returns-in-empty c = none_given c.args.types.now c.in-empty.len_below
