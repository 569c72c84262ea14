use Rattle.std.proofs.Common.{◌+◌, sym, subst}
use Rattle.dart_token.specs.declared.token.Token.{Token}
use Rattle.dart_tree.specs.Depth as height
use Rattle.dart_tree.specs.Unit as u
use Rattle.dart_tree.specs.UnitView as unit_view
use Rattle.grammar_laws.specs.Readers.{Outcome}
use Rattle.token_cursor.specs.Gives.{GivesHigh}
use Rattle.parse_callable.specs.Views.{external_if}
use Rattle.parse_callable.proofs.Stages.{accessor_by_parts}
use Rattle.parse_callable.proofs.accessor.accessor_over.Goals as goal

pub returns : goal.returns
returns g c =
    let d = c.args.depth in
    subst (λ (o : Outcome Token u.Accessor). GivesHigh unit_view.accessor height.accessor_height (d + 1) o
    c.accessor_parts.result c.accessor_parts.new.cursor)
    (sym (accessor_by_parts (external_if c.args.external) d c.args.cursor.now)) c.accessor_parts.ensures
