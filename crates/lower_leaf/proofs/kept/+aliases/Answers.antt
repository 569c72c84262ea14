use Rattle.std.proofs.Common.{◌∙◌, ap, sym}
use Rattle.dart_tree.specs.View as view
use Rattle.dart_tree.proofs.Rows.{view_listed_types}
use Rattle.translation.specs.Types as y
use Rattle.lower_leaf.specs.Seen.{seen}
use Rattle.lower_leaf.proofs.kept.+aliases.Goals as goal

pub alias_in_arguments-returns-in-Listed : goal.alias_in_arguments-returns-in-Listed
alias_in_arguments-returns-in-Listed g t c = c.alias_in_list.ensures
    ∙ sym (ap (y.alias_in_arguments (seen (g.S.Surroundings.around c.args.outside.now) c.args.state.now))
    (ap view.type_arguments c.in-Listed.is ∙ view_listed_types c.in-Listed.opening c.in-Listed.arguments c.in-Listed.closing))
