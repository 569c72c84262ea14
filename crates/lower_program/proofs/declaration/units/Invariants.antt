use Rattle.std.proofs.Common.{◌≡◌, ◌++◌, map, drop}
use Rattle.translation.specs.Program as p
use Rattle.translation.specs.Walk as w
use Rattle.lower_leaf.specs.Seen.{seen}
use Rattle.lower_program.specs.Views.{all_made, source_unit}
use Rattle.lower_program.proofs.declaration.units.Given as goal

abbrev pub invariant-loop-one : goal.invariant-loop-one
invariant-loop-one g l = let a = g.S.Surroundings.around l.outside in
    w.on (p.units (map (source_unit a) (drop l.one-index l.all.items)) (seen a l.state)) (λ more st. w.went (all_made a l.found ++ more) st)
    ≡ p.units (map (source_unit a) l.all.items) (seen a l.fn.state)
