use Rattle.std.proofs.Common.{◌≡◌, map, drop}
use Rattle.dart_tree.specs.UnitView as unit_view
use Rattle.translation.specs.ClassBodies as b
use Rattle.lower_leaf.specs.Seen.{seen}
use Rattle.lower_body.proofs.kept.bounds_kept.Given as goal

abbrev pub invariant-loop-one : goal.invariant-loop-one
invariant-loop-one g l = let a = g.S.Surroundings.around l.outside in
    b.bounds_kept (map unit_view.type_parameter (drop l.one-index l.all.items)) (seen a l.state)
    ≡ b.bounds_kept (map unit_view.type_parameter l.all.items) (seen a l.state)
