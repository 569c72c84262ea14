use Rattle.std.proofs.Common.{◌≡◌, map}
use Rattle.lower_leaf.specs.Around.{text}
use Rattle.lower_mixin.specs.Views.{names_handed}
use Rattle.lower_mixin.proofs.Picked.{first_ones}
use Rattle.lower_mixin.proofs.forward.names_of.Given as goal

abbrev pub invariant-loop-one : goal.invariant-loop-one
invariant-loop-one g l = let a = g.S.Surroundings.around l.outside in
    map (text a) l.made.items ≡ names_handed (first_ones a l.one-index l.all.items)
