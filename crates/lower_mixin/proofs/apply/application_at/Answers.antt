use Rattle.std.proofs.Common.{refl, rules}
use Rattle.translation.specs.Surroundings.{Text}
use Rattle.translation.specs.Types.{text_of}
use Rattle.translation.specs.Walk as w
use Rattle.lower_leaf.specs.Around.{types}
use Rattle.lower_leaf.specs.Seen.{seen}
use Rattle.lower_body.specs.Views.{all_generated, member_trees}
use Rattle.lower_body.proofs.Within.{class_begun, class_on}
use Rattle.lower_mixin.specs.Views.{application_inside, class_info}
use Rattle.lower_mixin.proofs.apply.application_at.Goals as goal

pub returns-in_err-found : goal.returns-in_err-found
unfolding w.on
returns-in_err-found g c =
    let a = g.S.Surroundings.around c.args.outside.now in
    rw (
      class_begun (a.names c.args.made.now.outer) (a.names c.args.made.now.outer) (application_inside c.args.class.0 (class_info a c.args.x.now)
          (types a c.args.arguments.items) (text_of c.args.made.now.name.now) (member_trees c.args.members.now.items) (all_generated a c.args.above.now))
          (seen a c.args.state.now) (seen a c.enter_class-before.new.state) refl c.enter_class-before.ensures.entered,
      ← c.text_of-name.ensures,
    ) (search rules)

pub returns : goal.returns
returns g c =
    let a = g.S.Surroundings.around c.args.outside.now in
    class_on (a.names c.args.made.now.outer) (a.names c.args.made.now.outer) (application_inside c.args.class.0 (class_info a c.args.x.now)
    (types a c.args.arguments.items) (text_of c.args.made.now.name.now) (member_trees c.args.members.now.items) (all_generated a c.args.above.now))
    (seen a c.args.state.now) (seen a c.enter_class-before.new.state) (seen a c.application_inside.new.state) (seen a c.leave_class.new.state) (all_generated a c.in_ok-found.found)
    (a.names c.enter_class-before.result.outer) c.enter_class-before.result.variables refl c.enter_class-before.ensures.entered
    c.enter_class-before.ensures.names c.enter_class-before.ensures.variables (rw c.text_of-name.ensures at c.in_ok-found.ensures) c.leave_class.ensures
