use Rattle.std.proofs.Common.{◌≡◌, map, drop}
use Rattle.translation.specs.Classes as cl
use Rattle.lower_class.specs.Views.{field, fields}
use Rattle.lower_class.proofs.field.field_named.Given as goal

abbrev pub invariant-loop-one : goal.invariant-loop-one
invariant-loop-one g l = let a = g.S.Surroundings.around l.outside in
    cl.field_named (map (field a) (drop l.one-index l.all.items)) l.name ≡ cl.field_named (fields a l.all) l.name
