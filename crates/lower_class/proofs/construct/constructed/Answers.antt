use Rattle.std.proofs.Common.{◌≡◌, ap, ◌∙◌, subst}
use Rattle.dart_tree.specs.View as view
use Rattle.translation.specs.Classes as cl
use Rattle.translation.specs.Surroundings.{Text}
use Rattle.translation.specs.Walk as w
use Rattle.lower_leaf.specs.Gives.{Gives}
use Rattle.lower_leaf.specs.Seen.{seen, inside}
use Rattle.lower_class.specs.Views.{class_around, forms_of, parts, signed, signed_of}
use Rattle.lower_class.proofs.Constructed.{constructed_same}
use Rattle.lower_class.proofs.construct.constructed.Goals as goal

pub returns : goal.returns
returns g c =
    let a = g.S.Surroundings.around c.args.outside.now in
    let ar = class_around a c.args.around.now in
    let st = seen a c.args.state.now in
    let made : signed a c.in_ok-made.made ≡ signed_of ar (cl.id_of c.args.name.now.name) (view.parameters c.args.given.now) st =
    c.in_ok-made.ensures.made ∙ ap (λ (id : Text). signed_of ar id (view.parameters c.args.given.now) st) c.id_of.ensures in
    subst (λ (walk : w.Went cl.Parts). Gives (parts a) c.outermost_formed.result (seen a c.outermost_formed.new.state) walk)
    (constructed_same ar c.args.name.now c.args.has_values (view.parameters c.args.given.now) c.args.number c.first_variable-first.result
    (forms_of a ar c.args.of) st (seen a c.signed_there.new.state)
    (signed a c.in_ok-made.made) (inside a c.in_ok-inside.inside) c.in_ok-made.ensures.same c.first_variable-first.ensures made c.in_ok-inside.ensures)
    c.outermost_formed.ensures
