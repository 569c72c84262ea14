use Rattle.std.proofs.Common.{sym, subst}
use Rattle.dart_token.specs.declared.token.Token.{Token}
use Rattle.grammar_laws.specs.Readers.{Outcome}
use Rattle.token_cursor.specs.Gives.{GivesHigh}
use Rattle.syntax_readers.specs.Primaries.{Argument}
use Rattle.parse_nest.specs.Stages.{closed_at}
use Rattle.parse_primary.specs.Views.{argument_of, argument_height}
use Rattle.parse_primary.proofs.Labelling.{named_is, label_is, plain_is}
use Rattle.parse_primary.proofs.arguments.argument.Goals as goal

pub returns-then-named : goal.returns-then-named
returns-then-named g c =
    let d = c.args.depth in
    subst (λ (o : Outcome Token Argument). GivesHigh argument_of argument_height d o c.named_argument.result c.named_argument.new.cursor) (sym (named_is (closed_at d) c.args.named c.args.cursor.now c.if-named.true)) c.named_argument.ensures

pub returns-then-name_before : goal.returns-then-name_before
returns-then-name_before g c =
    let d = c.args.depth in
    subst (λ (o : Outcome Token Argument). GivesHigh argument_of argument_height d o c.named_argument-then-name_before.result c.named_argument-then-name_before.new.cursor) (sym (label_is (closed_at d) c.args.named c.args.cursor.now c.if-named.false (sym c.if-name_before.ensures))) c.named_argument-then-name_before.ensures

pub returns : goal.returns
returns g c =
    let d = c.args.depth in
    subst (λ (o : Outcome Token Argument). GivesHigh argument_of argument_height d o c.plain_past_name.result c.plain_past_name.new.cursor) (sym (plain_is (closed_at d) c.args.named c.args.cursor.now c.if-named.false (sym c.if-name_before.ensures))) c.plain_past_name.ensures
