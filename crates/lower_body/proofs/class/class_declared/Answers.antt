use Rattle.std.proofs.Common.{◌∙◌, ap, subst}
use Rattle.dart_tree.specs.UnitView as unit_view
use Rattle.translation.specs.ClassBodies as b
use Rattle.translation.specs.Walk as w
use Rattle.lower_leaf.specs.Gives.{Gives}
use Rattle.lower_leaf.specs.Seen.{seen}
use Rattle.lower_body.specs.Views.{class_made}
use Rattle.lower_body.proofs.Within.{declared_same}
use Rattle.lower_body.proofs.class.class_declared.Goals as goal

pub returns : goal.returns
returns g c =
    let a = g.S.Surroundings.around c.args.outside.now in
    subst (λ (walk : w.Went b.ClassMade). Gives (class_made a) c.class_there.result (seen a c.class_there.new.state) walk)
    (declared_same (unit_view.class c.args.x.now) c.class_number-class.result.0 _ (seen a c.args.state.now) (seen a c.numbered.new.state)
    c.in_ok-numbered.ensures (c.class_number-class.ensures ∙ ap b.class_number (rw c.text_of.ensures at c.meaning.ensures)))
    c.class_there.ensures
