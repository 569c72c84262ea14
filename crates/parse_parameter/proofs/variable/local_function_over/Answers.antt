use Rattle.std.proofs.Common.{◌+◌, sym, subst}
use Rattle.dart_token.specs.declared.token.Token.{Token}
use Rattle.dart_tree.specs.Depth as height
use Rattle.dart_tree.specs.Tree as t
use Rattle.dart_tree.specs.View as view
use Rattle.grammar_laws.specs.Readers.{Outcome}
use Rattle.token_cursor.specs.Gives.{GivesHigh}
use Rattle.parse_parameter.proofs.Stages.{function_parts}
use Rattle.parse_parameter.proofs.variable.local_function_over.Goals as goal

pub returns : goal.returns
returns g c =
    let d = c.args.depth in
    subst (λ (o : Outcome Token t.Function). GivesHigh view.function height.function_height (d + 1) o c.local_parts.result c.local_parts.new.cursor)
    (sym (function_parts d c.args.cursor.now)) c.local_parts.ensures
