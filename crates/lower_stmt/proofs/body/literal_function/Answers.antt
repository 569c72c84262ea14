use Rattle.std.proofs.Common.{◌∙◌, ap, subst, ℕ}
use Rattle.dart_tree.specs.View as view
use Rattle.translation.specs.Productions as low
use Rattle.translation.specs.Surroundings.{Ty}
use Rattle.translation.specs.Types as y
use Rattle.translation.specs.Walk as w
use Rattle.lower_leaf.specs.Gives.{Gives, itself}
use Rattle.lower_leaf.specs.Seen.{seen}
use Rattle.lower_stmt.proofs.Closed.{inner_same}
use Rattle.lower_stmt.proofs.body.literal_function.Goals as goal

pub returns : goal.returns
returns g c =
    let a = g.S.Surroundings.around c.args.outside.now in
    subst (λ (walk : w.Went ℕ). Gives itself c.inner_function.result (seen a c.inner_function.new.state) walk)
    (inner_same _ _ _ _ _ _ _ (seen a c.args.state.now) (view.parameters c.args.parameters.now) (low.body (view.body c.args.tree.now)) (seen a c.args.state.now)
    c.in_ok-name.ensures (c.in_ok-of.ensures ∙ ap (λ (x : Ty). y.function_type (seen a c.args.state.now) x (view.parameters c.args.parameters.now)) c.dynamic_type.ensures) (c.unasked.ensures a) c.in_ok-given.ensures)
    c.inner_function.ensures
