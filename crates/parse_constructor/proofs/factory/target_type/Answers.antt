use Rattle.std.proofs.Common.{sym, subst}
use Rattle.dart_token.specs.declared.token.Token.{Token}
use Rattle.dart_tree.specs.Depth as height
use Rattle.dart_tree.specs.Types.{TypeNode}
use Rattle.dart_tree.specs.View as view
use Rattle.grammar_laws.specs.Readers.{Reader}
use Rattle.token_cursor.specs.Gives.{GivesHigh}
use Rattle.parse_parameter.proofs.Stages.{type_at}
use Rattle.parse_constructor.proofs.factory.target_type.Goals as goal

pub returns : goal.returns
returns c =
    let d = c.args.depth in
    subst (λ (type : Reader Token TypeNode). GivesHigh view.type_node height.type_height d (type c.args.cursor.now) c.type_node.result
    c.type_node.new.cursor)
    (sym (type_at d)) c.type_node.ensures
