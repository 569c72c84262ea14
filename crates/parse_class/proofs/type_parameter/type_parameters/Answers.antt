use Rattle.std.proofs.Common.{sym, subst}
use Rattle.dart_token.specs.declared.token.Token.{Token}
use Rattle.dart_tree.specs.Depth as height
use Rattle.dart_tree.specs.Unit as u
use Rattle.dart_tree.specs.UnitView as view
use Rattle.grammar_laws.specs.Readers.{Outcome}
use Rattle.token_cursor.specs.Gives.{GivesHigh}
use Rattle.parse_class.proofs.Listing.{angled_is}
use Rattle.parse_class.proofs.type_parameter.type_parameters.Goals as goal

pub returns : goal.returns
returns g c =
    let d = c.args.depth in
    subst (λ (o : Outcome Token u.TypeParameters). GivesHigh view.type_parameters height.type_parameters_height d o c.angled.result
    c.angled.new.cursor)
    (sym (angled_is d c.args.cursor.now)) c.angled.ensures
