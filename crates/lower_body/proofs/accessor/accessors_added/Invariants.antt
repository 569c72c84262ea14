use Rattle.std.proofs.Common.{◌≡◌, map, drop}
use Rattle.translation.specs.ClassBodies as b
use Rattle.lower_leaf.specs.Seen.{seen}
use Rattle.lower_class.specs.Views.{field, fields}
use Rattle.lower_body.proofs.accessor.accessors_added.Given as goal

abbrev pub invariant-loop-one : goal.invariant-loop-one
invariant-loop-one g l = let a = g.S.Surroundings.around l.outside in
    b.accessors_added l.class.0 (map (field a) (drop l.one-index l.all.items)) (seen a l.state)
    ≡ b.accessors_added l.class.0 (fields a l.all) (seen a l.fn.state)
