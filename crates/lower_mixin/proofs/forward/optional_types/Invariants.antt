use Rattle.std.proofs.Common.{◌≡◌, map}
use Rattle.dart_ir.specs.Ty.{dynamic}
use Rattle.translation.specs.Applications as apps
use Rattle.lower_leaf.specs.Around.{types}
use Rattle.lower_mixin.proofs.Picked.{first_ones}
use Rattle.lower_mixin.proofs.forward.optional_types.Given as goal

abbrev pub invariant-loop-one : goal.invariant-loop-one
invariant-loop-one g l = let a = g.S.Surroundings.around l.outside in
    types a l.made.items ≡ map (λ q. dynamic) (apps.of_shape apps.is_optional (first_ones a l.one-index l.all.items))
