use Rattle.std.proofs.Common.{◌≡◌, drop}
use Rattle.lower_leaf.specs.Forms.{cores}
use Rattle.lower_clause.specs.Jumps.{first_place}
use Rattle.lower_clause.proofs.jump.first_place.Given as goal

abbrev pub invariant-loop-one : goal.invariant-loop-one
invariant-loop-one g l = let a = g.S.Surroundings.around l.outside in
    first_place (cores a (drop l.one-index l.forms.items)) ≡ first_place (cores a l.forms.items)
