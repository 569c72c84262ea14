use Rattle.std.proofs.Common.{rules}
use Rattle.dart_tree.specs.UnitView as unit_view
use Rattle.translation.specs.ClassBodies as b
use Rattle.translation.specs.Walk as w
use Rattle.lower_leaf.specs.Seen.{seen}
use Rattle.lower_body.specs.Views.{class_made}
use Rattle.lower_body.proofs.Within.{class_begun, class_on}
use Rattle.lower_body.proofs.class.class_there.Goals as goal

pub returns-in_err-made : goal.returns-in_err-made
unfolding w.on
returns-in_err-made g c =
    let a = g.S.Surroundings.around c.args.outside.now in
    rw (class_begun (a.tables.class_names c.args.class.0) (a.names c.class_outer-inside.result) (b.class_inside c.args.class.0 (unit_view.class c.args.x.now))
    (seen a c.args.state.now) (seen a c.enter_class-before.new.state) c.class_outer-inside.ensures c.enter_class-before.ensures.entered) (search rules)

pub returns : goal.returns
returns g c =
    let a = g.S.Surroundings.around c.args.outside.now in
    class_on (a.tables.class_names c.args.class.0) (a.names c.class_outer-inside.result) (b.class_inside c.args.class.0 (unit_view.class c.args.x.now))
    (seen a c.args.state.now) (seen a c.enter_class-before.new.state) (seen a c.class_inside.new.state) (seen a c.leave_class.new.state) (class_made a c.in_ok-made.made)
    (a.names c.enter_class-before.result.outer) c.enter_class-before.result.variables c.class_outer-inside.ensures c.enter_class-before.ensures.entered
    c.enter_class-before.ensures.names c.enter_class-before.ensures.variables c.in_ok-made.ensures c.leave_class.ensures
