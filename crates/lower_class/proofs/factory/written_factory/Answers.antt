use Rattle.std.proofs.Common.{◌≡◌, ℕ, Some, false, ap, ◌∙◌, subst}
use Rattle.dart_tree.specs.View as view
use Rattle.translation.specs.Classes as cl
use Rattle.translation.specs.Declarations as d
use Rattle.translation.specs.Surroundings.{Text, Ty}
use Rattle.translation.specs.Walk as w
use Rattle.lower_leaf.specs.Around.{ty}
use Rattle.lower_leaf.specs.Gives.{Gives, itself}
use Rattle.lower_leaf.specs.Seen.{seen, inside}
use Rattle.lower_class.specs.Views.{class_around, signed, signed_of}
use Rattle.lower_class.proofs.Constructed.{factory_same, asked_for}
use Rattle.lower_class.proofs.factory.written_factory.Goals as goal

pub returns : goal.returns
returns g c =
    let a = g.S.Surroundings.around c.args.outside.now in
    let ar = class_around a c.args.around.now in
    let st = seen a c.args.state.now in
    let made : signed a c.in_ok-made.made ≡ signed_of ar (cl.id_of c.args.name.now.name) (view.parameters c.args.given.now) st =
    c.in_ok-made.ensures.made ∙ ap (λ (id : Text). signed_of ar id (view.parameters c.args.given.now) st) c.id_of.ensures in
    let context : inside a c.in_ok-inside.inside ≡ d.inside (cl.without_instance ar) (asked_for ar st) =
    c.in_ok-inside.ensures
    ∙ ap (λ (s : d.Standing). d.inside s (record { of = Some (ty a c.in_ok-own.own); annotated = false })) c.in_ok-of.ensures
    ∙ ap (λ (of : Ty). d.inside (cl.without_instance ar) (record { of = Some of; annotated = false }))
    (c.in_ok-own.ensures ∙ ap (cl.own_type ar.class) c.in_ok-made.ensures.same) in
    subst (λ (walk : w.Went ℕ). Gives itself c.outermost_function.result (seen a c.outermost_function.new.state) walk)
    (factory_same ar c.args.external c.args.native c.args.name.now (view.parameters c.args.given.now) (view.body c.args.body.now) c.args.number
    st (seen a c.signed_there.new.state) (signed a c.in_ok-made.made) (inside a c.in_ok-inside.inside) c.in_ok-made.ensures.same made context)
    c.outermost_function.ensures
