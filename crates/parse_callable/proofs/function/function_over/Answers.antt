use Rattle.std.proofs.Common.{◌+◌, sym, subst}
use Rattle.dart_token.specs.declared.token.Token.{Token}
use Rattle.dart_tree.specs.Depth as height
use Rattle.dart_tree.specs.Tree as t
use Rattle.dart_tree.specs.View as view
use Rattle.grammar_laws.specs.Readers.{Outcome}
use Rattle.token_cursor.specs.Gives.{GivesHigh}
use Rattle.parse_callable.specs.Views.{external_if}
use Rattle.parse_callable.proofs.Stages.{function_by_parts}
use Rattle.parse_callable.proofs.function.function_over.Goals as goal

pub returns : goal.returns
returns g c =
    let d = c.args.depth in
    subst (λ (o : Outcome Token t.Function). GivesHigh view.function height.function_height (d + 1) o
    c.function_parts.result c.function_parts.new.cursor)
    (sym (function_by_parts (external_if c.args.external) d c.args.cursor.now)) c.function_parts.ensures
