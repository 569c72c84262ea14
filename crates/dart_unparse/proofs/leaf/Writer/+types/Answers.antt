use Rattle.std.proofs.Common.{◌∙◌, ap, append_assoc, rules}
use Rattle.dart_tree.specs.LeafTokens.{type_arguments_tokens}
use Rattle.dart_tree.specs.View as view
use Rattle.dart_tree.proofs.Rows.{view_listed_types}
use Rattle.dart_unparse.proofs.leaf.Writer.+types.Goals as goal

pub type_arguments-returns-in_ok-type_list-in-Listed :
    goal.type_arguments-returns-in_ok-type_list-in-Listed
type_arguments-returns-in_ok-type_list-in-Listed t c =
    let e = ap type_arguments_tokens (ap view.type_arguments c.in-Listed.is ∙ view_listed_types c.in-Listed.opening c.in-Listed.arguments c.in-Listed.closing) in
    rw e (search (rules, append_assoc))
