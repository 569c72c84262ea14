use Rattle.std.proofs.Common.{None, sym, subst, ap, ◌∙◌, arith}
use Rattle.dart_token.specs.declared.token.Token.{Token}
use Rattle.dart_tree.specs.Lists.{parameter_list_of}
use Rattle.dart_tree.specs.Tree as t
use Rattle.grammar_laws.specs.Readers.{Outcome}
use Rattle.grammar_laws.proofs.Cuts.{gave}
use Rattle.syntax_readers.specs.Parameters as spec
use Rattle.token_cursor.specs.Gives.{GivesHigh}
use Rattle.parse_parameter.specs.Views.{parameter_at, parameters_of, required_of, required_height}
use Rattle.parse_parameter.proofs.Parameters.{none_required, no_parameters_high, some_are_required}
use Rattle.parse_parameter.proofs.list.required.Goals as goal

pub returns-then-not-sees_parameter : goal.returns-then-not-sees_parameter
returns-then-not-sees_parameter g c =
    let empty = ap parameter_list_of c.new.ensures.items in
    let start = c.args.cursor.now in (
      none_required (parameter_at c.args.depth) start (sym c.if-not-sees_parameter.ensures) ∙ ap (λ (l : t.ParameterList). gave {A = spec.Required} (l, None) start) (sym empty),
      no_parameters_high (parameters_of c.new.result) empty,
      omega arith,
    )

pub returns : goal.returns
returns g c =
    let d = c.args.depth in
    subst (λ (o : Outcome Token spec.Required). GivesHigh required_of required_height d o c.some_required.result c.some_required.new.cursor)
    (sym (some_are_required (parameter_at d) c.args.cursor.now (sym c.if-not-sees_parameter.ensures))) c.some_required.ensures
