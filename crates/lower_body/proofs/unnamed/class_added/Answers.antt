use Rattle.std.proofs.Common.{refl, rules}
use Rattle.translation.specs.Walk as w
use Rattle.lower_leaf.specs.Seen.{seen}
use Rattle.lower_body.specs.Views.{added_inside, all_generated, class_made}
use Rattle.lower_body.proofs.Within.{class_begun, class_on}
use Rattle.lower_body.proofs.unnamed.class_added.Goals as goal

pub returns-in_err-made : goal.returns-in_err-made
unfolding w.on
returns-in_err-made g c =
    let a = g.S.Surroundings.around c.args.outside.now in
    rw (class_begun (a.names c.args.x.now.outer) (a.names c.args.x.now.outer) (added_inside (class_made a c.args.x.now))
    (seen a c.args.state.now) (seen a c.enter_class-before.new.state) refl c.enter_class-before.ensures.entered) (search rules)

pub returns : goal.returns
returns g c =
    let a = g.S.Surroundings.around c.args.outside.now in
    class_on (a.names c.args.x.now.outer) (a.names c.args.x.now.outer) (added_inside (class_made a c.args.x.now))
    (seen a c.args.state.now) (seen a c.enter_class-before.new.state) (seen a c.added_inside.new.state) (seen a c.leave_class.new.state) (all_generated a c.in_ok-made.made)
    (a.names c.enter_class-before.result.outer) c.enter_class-before.result.variables refl c.enter_class-before.ensures.entered
    c.enter_class-before.ensures.names c.enter_class-before.ensures.variables c.in_ok-made.ensures c.leave_class.ensures
