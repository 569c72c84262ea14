use Rattle.std.proofs.Common.{◌≤◌, map, length, arith}
use Rattle.dart_tree.specs.UnitView as unit_view
use Rattle.class_source.specs.View as shown
use Rattle.class_reader.specs.Given.{given_of, source_unit}
use Rattle.class_reader.proofs.Units.{declared_step, declared_end}
use Rattle.class_reader.proofs.program.add_unit.Goals as goal

pub loop-one-preserved : goal.loop-one-preserved
loop-one-preserved g c =
    let a = g.S.Surroundings.around c.args.members.now in
    let given = given_of (g.S.Surroundings.around c.args.headers.now) a (g.P.Positions.libraries c.args.positions.now) (g.P.Positions.numbers c.args.positions.now) in
    declared_step (shown.class a.texts) given (source_unit c.args.home (map unit_view.decl c.args.all.now.items)) c.args.all.now.items c.deref-one-items.result.now
    c.loop-one.one-index c.one-item.result c.loop-one.made.items c.add_declared.new.made.items _
    c.deref-one-items.ensures.value c.loop-one-test.true c.one-item.is c.in_ok-add_declared.ensures c.loop-one.invariant

pub returns : goal.returns
returns g c =
    let a = g.S.Surroundings.around c.args.members.now in
    let given = given_of (g.S.Surroundings.around c.args.headers.now) a (g.P.Positions.libraries c.args.positions.now) (g.P.Positions.numbers c.args.positions.now) in
    let past : length c.deref-one-items.result.now ≤ c.loop-one.one-index = omega arith in
    declared_end (shown.class a.texts) given (source_unit c.args.home (map unit_view.decl c.args.all.now.items)) c.args.all.now.items c.deref-one-items.result.now
    c.loop-one.one-index c.loop-one.made.items _ c.deref-one-items.ensures.value past c.loop-one.invariant
