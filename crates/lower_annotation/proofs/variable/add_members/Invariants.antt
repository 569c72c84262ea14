use Rattle.std.proofs.Common.{◌≡◌, ◌++◌, map, drop}
use Rattle.std.specs.Prelude.{flat_map}
use Rattle.dart_tree.specs.UnitView as unit_view
use Rattle.lower_annotation.specs.Numbered as d
use Rattle.lower_annotation.specs.Seen.{variable}
use Rattle.lower_annotation.proofs.variable.add_members.Given as goal

abbrev pub invariant-loop-one : goal.invariant-loop-one
invariant-loop-one g l = let number = g.N.Numbers.numbers l.numbers in
    map variable l.made.items ++ flat_map (d.static_variables number l.outer) (map unit_view.member (drop l.one-index l.all))
    ≡ map variable l.initial.made.items ++ flat_map (d.static_variables number l.outer) (map unit_view.member l.all)
