use Rattle.std.proofs.Common.{◌≡◌, map, drop}
use Rattle.translation.specs.Program as p
use Rattle.lower_program.specs.Views.{source_unit}
use Rattle.lower_program.proofs.member_name.named_as_class.Given as goal

abbrev pub invariant-loop-one : goal.invariant-loop-one
invariant-loop-one g l = let a = g.S.Surroundings.around l.outside in
    p.named_as_class (map (source_unit a) (drop l.one-index l.units.items)) ≡ p.named_as_class (map (source_unit a) l.units.items)
