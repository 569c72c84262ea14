use Rattle.std.proofs.Common.{sym, subst}
use Rattle.dart_token.specs.declared.token.Token.{Token}
use Rattle.dart_tree.specs.Depth as height
use Rattle.dart_tree.specs.Unit as u
use Rattle.dart_tree.specs.UnitView as view
use Rattle.grammar_laws.specs.Readers.{Outcome}
use Rattle.token_cursor.specs.Gives.{GivesHigh}
use Rattle.syntax_readers.specs.Declarations as spec
use Rattle.parse_constructor.proofs.Initializing.{parts_are}
use Rattle.parse_constructor.proofs.initializer.initializers.Goals as goal

pub returns : goal.returns
returns g c =
    let d = c.args.depth in
    subst (λ (o : Outcome Token u.Initializers). GivesHigh view.initializers height.initializers_height d o c.behind_colon.result
    c.behind_colon.new.cursor)
    (sym (parts_are (spec.init d) c.args.cursor.now)) c.behind_colon.ensures
