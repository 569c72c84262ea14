use Rattle.std.proofs.Common.{◌+◌, ◌∙◌, sym, ap, refl, arith}
use Rattle.std.proofs.lemmas.Result.{err_from_is_err_and}
use Rattle.dart_tree.specs.Depth as height
use Rattle.dart_tree.specs.Tree as tree
use Rattle.dart_tree.specs.View as view
use Rattle.grammar_laws.proofs.Cuts.{gave}
use Rattle.token_cursor.proofs.Passing.{passes}
use Rattle.syntax_readers.specs.Expressions.{assignment}
use Rattle.parse_nest.specs.Open.{open_expr, open_expr_height}
use Rattle.parse_nest.specs.Stages.{expr_at}
use Rattle.parse_unary.specs.Views.{open_operand}
use Rattle.parse_expr.specs.Views.{assigned_of, assigned_height, value_behind}
use Rattle.parse_expr.proofs.Behind.{assign_height}
use Rattle.parse_expr.proofs.expr.with_value.Goals as goal

pub returns-in_err-operator : goal.returns-in_err-operator
returns-in_err-operator g c =
    let p = err_from_is_err_and c.from_residual.result c.from_residual.ensures.1 in
    let d = c.args.depth in
    let ts = c.args.cursor.now in
    rw (p.1, p.2) (passes assigned_of assigned_height d (assignment c.args.target.1 (expr_at d c.args.cascades) ts) open_expr open_expr_height (d + 1) (value_behind d c.args.cascades (open_operand c.args.target) ts) c.in_err-operator.field-0.0 c.assignment.new.cursor
    (λ rest e. rw e refl) c.in_err-operator.ensures)

pub returns : goal.returns
returns g c =
    let r = c.in_ok-operator.ensures in
    let high = ap height.expr_height c.in_ok-expr.ensures ∙ assign_height (view.operand c.args.target.0) c.in_ok-operator.operator (view.expr c.in_ok-operator.value) in (
      rw r.0 (ap (λ (x : tree.Expr). gave (x, c.in_ok-operator.half) c.assignment.new.cursor) (sym c.in_ok-expr.ensures)),
      omega (arith, high, r.1, c.requires.high, c.max.ensures),
      omega (arith, r.2, c.requires.low, c.max.ensures),
    )
