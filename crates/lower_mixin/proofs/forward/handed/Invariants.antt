use Rattle.std.proofs.Common.{◌≡◌, map, take}
use Rattle.translation.specs.References.{variable}
use Rattle.lower_leaf.specs.Forms.{cores}
use Rattle.lower_function.specs.Made.{parameter}
use Rattle.lower_mixin.proofs.forward.handed.Given as goal

abbrev pub invariant-loop-one : goal.invariant-loop-one
invariant-loop-one g l = let a = g.S.Surroundings.around l.outside in
    cores a l.forms.items ≡ map (λ q. variable l.place q.var) (map (parameter a) (take l.one-index l.all.items))
