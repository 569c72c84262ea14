use Rattle.std.proofs.Common.{◌≡◌, ◌∙◌, ap, sym, subst, IfOk}
use Rattle.dart_tree.specs.Types as tree
use Rattle.dart_tree.specs.View as view
use Rattle.dart_tree.proofs.Rows.{view_listed_types}
use Rattle.translation.specs.Types as y
use Rattle.lower_leaf.specs.Around.{types}
use Rattle.lower_leaf.specs.Kept.{aliases_of}
use Rattle.lower_leaf.specs.Seen.{seen}
use Rattle.lower_leaf.proofs.types.+types.Goals as goal

pub type_arguments-returns-in-Listed : goal.type_arguments-returns-in-Listed
type_arguments-returns-in-Listed g t c =
    subst (λ (x : tree.TypeArguments). IfOk c.type_list.result (λ made. types (g.S.Surroundings.around c.args.outside.now) made.items
    ≡ y.type_arguments (aliases_of (g.S.Surroundings.around c.args.outside.now) c.args.aliases) (seen (g.S.Surroundings.around c.args.outside.now) c.args.state.now) x))
    (sym (ap view.type_arguments c.in-Listed.is ∙ view_listed_types c.in-Listed.opening c.in-Listed.arguments c.in-Listed.closing)) c.type_list.ensures
