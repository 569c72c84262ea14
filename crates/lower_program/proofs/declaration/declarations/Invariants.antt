use Rattle.std.proofs.Common.{◌≡◌, ◌++◌, map, drop}
use Rattle.dart_tree.specs.UnitView as unit_view
use Rattle.translation.specs.Program as p
use Rattle.translation.specs.Walk as w
use Rattle.lower_leaf.specs.Seen.{seen}
use Rattle.lower_program.specs.Views.{all_made}
use Rattle.lower_program.proofs.declaration.declarations.Given as goal

abbrev pub invariant-loop-one : goal.invariant-loop-one
invariant-loop-one g l = let a = g.S.Surroundings.around l.outside in
    w.on (p.declarations (map unit_view.decl (drop l.one-index l.all.items)) (seen a l.state)) (λ more st. w.went (all_made a l.found ++ more) st)
    ≡ p.declarations (map unit_view.decl l.all.items) (seen a l.fn.state)
