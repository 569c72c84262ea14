use Rattle.std.proofs.Common.{sym, subst, ap, arith, Option}
use Rattle.dart_base.specs.declared.place.Place.{Place}
use Rattle.dart_tree.specs.Lists.{entries_of}
use Rattle.dart_tree.specs.Tree as tree
use Rattle.dart_token.specs.declared.token.Token.{Token}
use Rattle.grammar_laws.specs.Readers.{Outcome}
use Rattle.token_cursor.specs.Gives.{GivesHigh}
use Rattle.parse_nest.specs.Stages.{closed_at}
use Rattle.parse_literal.specs.Views.{entries_and_comma, entries_and_comma_height}
use Rattle.parse_literal.proofs.Listings.{no_entries_are, no_entries_height, some_entries_are}
use Rattle.parse_literal.proofs.collections.map_entries.Goals as goal

pub returns-then-not-sees_expr : goal.returns-then-not-sees_expr
returns-then-not-sees_expr g c =
    let list = entries_of c.new.result.items in
    let is = ap entries_of c.new.ensures.items in
    (no_entries_are (closed_at c.args.depth) c.args.cursor.now list (sym c.if-not-sees_expr.ensures) is, no_entries_height list is, omega arith)

pub returns : goal.returns
returns g c = subst (λ (o : Outcome Token (tree.Entries × Option Place)). GivesHigh entries_and_comma entries_and_comma_height c.args.depth o c.some_entries.result c.some_entries.new.cursor) (sym (some_entries_are (closed_at c.args.depth) c.args.cursor.now (sym c.if-not-sees_expr.ensures))) c.some_entries.ensures
