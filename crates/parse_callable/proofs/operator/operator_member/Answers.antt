use Rattle.std.proofs.Common.{sym, subst}
use Rattle.dart_token.specs.declared.token.Token.{Token}
use Rattle.dart_tree.specs.Depth as height
use Rattle.dart_tree.specs.Unit as u
use Rattle.dart_tree.specs.UnitView as unit_view
use Rattle.grammar_laws.specs.Readers.{Outcome}
use Rattle.token_cursor.specs.Gives.{GivesHigh}
use Rattle.parse_callable.proofs.Stages.{operator_by_parts}
use Rattle.parse_callable.proofs.operator.operator_member.Goals as goal

pub returns : goal.returns
returns g c =
    let d = c.args.depth in
    subst (λ (o : Outcome Token u.OperatorMember). GivesHigh unit_view.operator_member height.operator_height d o
    c.operator_parts.result c.operator_parts.new.cursor)
    (sym (operator_by_parts d c.args.cursor.now)) c.operator_parts.ensures
