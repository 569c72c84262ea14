use Rattle.std.proofs.Common.{◌∙◌, ap, sym}
use Rattle.dart_tree.specs.Types as y
use Rattle.dart_tree.specs.View as view
use Rattle.dart_tree.proofs.Rows.{view_listed_types}
use Rattle.dart_node.proofs.leaf.+types.Goals as goal

pub try_clone_type_arguments-returns-in_ok-arguments-in-Listed : goal.try_clone_type_arguments-returns-in_ok-arguments-in-Listed
try_clone_type_arguments-returns-in_ok-arguments-in-Listed t c =
    c.listed_types.ensures ∙
    ap (λ (x : y.TypeList). y.listed_types c.in-Listed.opening x c.in-Listed.closing) c.in_ok-arguments-in-Listed.ensures ∙
    sym (ap view.type_arguments c.in-Listed.is ∙ view_listed_types c.in-Listed.opening c.in-Listed.arguments c.in-Listed.closing)
