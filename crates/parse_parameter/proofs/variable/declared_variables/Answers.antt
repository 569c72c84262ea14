use Rattle.std.proofs.Common.{◌≡◌, ◌∙◌, sym, ap, arith}
use Rattle.dart_syntax.specs.Statements.{the_variables}
use Rattle.dart_tree.specs.Depth as height
use Rattle.dart_tree.specs.Tree as t
use Rattle.dart_tree.specs.View as view
use Rattle.parse_parameter.specs.Views.{variables_of}
use Rattle.parse_parameter.proofs.Variables.{rows_are}
use Rattle.parse_parameter.proofs.variable.declared_variables.Goals as goal

pub returns : goal.returns
unfolding height.variables_height
returns c =
    let same : view.variables c.variables.result ≡ the_variables (view.variable_kind c.args.kind, c.args.name) (view.value c.args.value) (variables_of c.args.more) c.args.semicolon =
    c.variables.ensures ∙ ap (λ (l : t.MoreVariables). t.the_variables (view.variable_kind c.args.kind) c.args.name (view.value c.args.value) l c.args.semicolon) (sym (rows_are c.args.more.items)) in
    let k = ap height.variables_height same in
    record { same = same; high = omega arith }
