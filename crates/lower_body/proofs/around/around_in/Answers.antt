use Rattle.std.proofs.Common.{◌∙◌, ap}
use Rattle.translation.specs.ClassBodies as b
use Rattle.translation.specs.Surroundings.{Text}
use Rattle.lower_leaf.specs.Around.{option_types}
use Rattle.lower_leaf.specs.Seen.{seen}
use Rattle.lower_class.specs.Views.{fields}
use Rattle.lower_body.specs.Views.{member_trees}
use Rattle.lower_body.proofs.Fielded.{around_same}
use Rattle.lower_body.proofs.around.around_in.Goals as goal

pub returns-clause-made : goal.returns-clause-made
returns-clause-made g c =
    let a = g.S.Surroundings.around c.args.outside.now in
    around_same c.args.class.0 (option_types a c.args.arguments) c.in_ok-name.name (fields a c.new.result) (fields a c.in_ok-around.field-0) c.in_ok-around-2.field-0
    (member_trees c.args.members.now.items) (seen a c.args.state.now) (seen a c.fields_in.new.state) c.in_ok-around.ensures.same c.in_ok-around.ensures.made c.in_ok-around-2.ensures
    ∙ ap (λ (name : Text). b.around_in c.args.class.0 (option_types a c.args.arguments) name (member_trees c.args.members.now.items) (seen a c.args.state.now)) c.in_ok-name.ensures
