use Rattle.std.proofs.Common.{◌≡◌, map}
use Rattle.std.specs.List.{range_with_len}
use Rattle.translation.specs.References as r
use Rattle.lower_leaf.specs.Forms.{cores}
use Rattle.lower_decl.proofs.native.variables.Given as goal

abbrev pub invariant-loop-x : goal.invariant-loop-x
invariant-loop-x g l = let a = g.S.Surroundings.around l.outside in
    cores a l.forms.items ≡ map (r.variable l.place) (range_with_len 0 l.x)
