use Rattle.std.proofs.Common.{◌+◌, sym, subst}
use Rattle.dart_token.specs.declared.token.Token.{Token}
use Rattle.dart_tree.specs.Depth as height
use Rattle.dart_tree.specs.Unit as u
use Rattle.dart_tree.specs.UnitView as view
use Rattle.grammar_laws.specs.Readers.{Outcome}
use Rattle.token_cursor.specs.Gives.{GivesHigh}
use Rattle.parse_constructor.proofs.Seeking.{generative_is}
use Rattle.parse_constructor.proofs.generative.generative.Goals as goal

pub returns : goal.returns
returns g c =
    let d = c.args.depth in
    subst (λ (o : Outcome Token u.Constructor). GivesHigh view.constructor height.constructor_height (d + 1) o c.name_first.result
    c.name_first.new.cursor)
    (sym (generative_is d c.args.class.now c.args.cursor.now)) c.name_first.ensures
