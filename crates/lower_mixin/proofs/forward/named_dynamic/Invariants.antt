use Rattle.std.proofs.Common.{◌≡◌, map}
use Rattle.translation.specs.Applications as apps
use Rattle.lower_leaf.specs.Kept.{named_type}
use Rattle.lower_mixin.proofs.Named.{with_dynamic}
use Rattle.lower_mixin.proofs.Picked.{first_ones}
use Rattle.lower_mixin.proofs.forward.named_dynamic.Given as goal

abbrev pub invariant-loop-one : goal.invariant-loop-one
invariant-loop-one g l = let a = g.S.Surroundings.around l.outside in
    map (named_type a) l.made.items ≡ map with_dynamic (apps.of_shape apps.is_named (first_ones a l.one-index l.all.items))
