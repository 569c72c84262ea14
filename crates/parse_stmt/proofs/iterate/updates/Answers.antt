use Rattle.std.proofs.Common.{sym, subst, ap, arith}
use Rattle.dart_token.specs.declared.token.Token.{Token}
use Rattle.dart_tree.specs.Depth as height
use Rattle.dart_tree.specs.Lists.{items_of}
use Rattle.dart_tree.specs.Tree as tree
use Rattle.grammar_laws.specs.Readers.{Outcome}
use Rattle.token_cursor.specs.Gives.{GivesHigh}
use Rattle.parse_literal.specs.Views.{view_items}
use Rattle.parse_literal.proofs.Listings.{no_items_height}
use Rattle.parse_nest.specs.Stages.{closed_at}
use Rattle.parse_stmt.proofs.Updating.{no_updates, some_updates_are}
use Rattle.parse_stmt.proofs.iterate.updates.Goals as goal

pub returns-then-not-sees_expr : goal.returns-then-not-sees_expr
returns-then-not-sees_expr g c =
    let list = items_of c.new.result.items in
    let is = ap items_of c.new.ensures.items in
    (no_updates (closed_at c.args.depth) c.args.cursor.now list (sym c.if-not-sees_expr.ensures) is, no_items_height list is, omega arith)

pub returns : goal.returns
returns g c =
    subst (λ (o : Outcome Token tree.Items). GivesHigh view_items height.items_height c.args.depth o c.some_updates.result c.some_updates.new.cursor)
    (sym (some_updates_are (closed_at c.args.depth) c.args.cursor.now (sym c.if-not-sees_expr.ensures))) c.some_updates.ensures
