use Rattle.std.proofs.Common.{◌≡◌, ◌++◌, drop}
use Rattle.std.specs.List.{flat_map}
use Rattle.translation.specs.Statements as s
use Rattle.lower_leaf.specs.Forms.{cores}
use Rattle.lower_clause.proofs.turns.copies_of.Given as goal

abbrev pub invariant-loop-one : goal.invariant-loop-one
invariant-loop-one g l = let a = g.S.Surroundings.around l.outside in
    l.found.items ++ flat_map s.var_of (cores a (drop l.one-index l.forms.items)) ≡ flat_map s.var_of (cores a l.forms.items)
