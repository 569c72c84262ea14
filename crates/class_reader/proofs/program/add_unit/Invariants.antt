use Rattle.std.proofs.Common.{◌≡◌, ◌++◌, map, length, drop}
use Rattle.dart_tree.specs.UnitView as unit_view
use Rattle.class_source.specs.Source.{declared_classes}
use Rattle.class_source.specs.View as shown
use Rattle.class_reader.specs.Given.{given_of, source_unit}
use Rattle.class_reader.specs.Seen.{classes}
use Rattle.class_reader.proofs.Units.{declared_behind}
use Rattle.class_reader.proofs.program.add_unit.Given as goal

abbrev pub invariant-loop-one : goal.invariant-loop-one
invariant-loop-one g l =
    let a = g.S.Surroundings.around l.members in
    let given = given_of (g.S.Surroundings.around l.headers) a (g.P.Positions.libraries l.positions) (g.P.Positions.numbers l.positions) in
    let unit = source_unit l.home (map unit_view.decl l.all.items) in
    declared_behind (shown.class a.texts) given unit l.made.items (drop l.one-index l.all.items)
    ≡ classes a l.initial.made ++ declared_classes given unit (length l.initial.made.items) (map unit_view.decl l.all.items)
