use Rattle.std.proofs.Common.{sym, subst}
use Rattle.dart_token.specs.declared.token.Token.{Token}
use Rattle.dart_tree.specs.Depth as height
use Rattle.dart_tree.specs.Tree as t
use Rattle.dart_tree.specs.View as view
use Rattle.grammar_laws.specs.Readers.{Outcome}
use Rattle.token_cursor.specs.Gives.{GivesHigh}
use Rattle.parse_parameter.proofs.Stages.{kind_by_type}
use Rattle.parse_parameter.proofs.metadata.how_declared.Goals as goal

pub returns : goal.returns
returns g c =
    let d = c.args.depth in
    subst (λ (o : Outcome Token t.ParameterKind). GivesHigh view.parameter_kind height.parameter_kind_height d o c.parameter_kind.result c.parameter_kind.new.cursor)
    (sym (kind_by_type d c.args.cursor.now)) c.parameter_kind.ensures
