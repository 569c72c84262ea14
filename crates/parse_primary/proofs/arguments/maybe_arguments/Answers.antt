use Rattle.std.proofs.Common.{sym, subst}
use Rattle.dart_token.specs.declared.token.Token.{Token}
use Rattle.dart_tree.specs.Depth as height
use Rattle.dart_tree.specs.Tree as tree
use Rattle.grammar_laws.specs.Readers.{Outcome}
use Rattle.token_cursor.specs.Gives.{GivesHigh}
use Rattle.parse_nest.specs.Stages.{closed_at}
use Rattle.parse_primary.specs.Views.{view_items}
use Rattle.parse_primary.proofs.Labelling.{none_given, some_are}
use Rattle.parse_primary.proofs.arguments.maybe_arguments.Goals as goal

pub returns : goal.returns
returns g c = subst (λ (o : Outcome Token tree.Items). GivesHigh view_items height.items_height c.args.depth o c.some_arguments.result c.some_arguments.new.cursor) (sym (some_are (closed_at c.args.depth) c.args.cursor.now (sym c.if-not-sees_expr.ensures))) c.some_arguments.ensures

pub returns-then-not-sees_expr : goal.returns-then-not-sees_expr
returns-then-not-sees_expr g c = none_given (closed_at c.args.depth) c.args.depth c.args.cursor.now c.new.result.items (sym c.if-not-sees_expr.ensures) c.new.ensures.items
