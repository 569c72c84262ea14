use Rattle.std.proofs.Common.{sym, subst}
use Rattle.dart_token.specs.declared.token.Token.{Token}
use Rattle.dart_tree.specs.Depth as height
use Rattle.dart_tree.specs.Types.{TypeNode}
use Rattle.dart_tree.specs.View as view
use Rattle.grammar_laws.specs.Readers.{Outcome}
use Rattle.token_cursor.specs.Gives.{GivesHigh}
use Rattle.parse_primary.proofs.Staged.{type_is}
use Rattle.parse_primary.proofs.primary.class.Goals as goal

pub returns : goal.returns
returns c = subst (λ (o : Outcome Token TypeNode). GivesHigh view.type_node height.type_height c.args.depth o c.type_node.result c.type_node.new.cursor) (sym (type_is c.args.depth c.args.cursor.now)) c.type_node.ensures
