use Rattle.std.proofs.Common.{◌≡◌, ◌-◌, ◌+◌, ℕ, subst, arith}
use Rattle.dart_tree.specs.Depth as height
use Rattle.dart_tree.specs.Lists.{block_of}
use Rattle.dart_tree.specs.View as view
use Rattle.token_cursor.specs.Gives.{GivesHigh}
use Rattle.syntax_readers.specs.Parameters.{parameters_over}
use Rattle.syntax_readers.specs.Statements.{block_over}
use Rattle.parse_nest.specs.Open.{open_expr, open_expr_height}
use Rattle.parse_nest.specs.Stages.{expr_at, closed_at, parameters_at, block_at, stmt_at}
use Rattle.parse_parameter.specs.Views.{parameter_at}
use Rattle.parse_parameter.proofs.Stages.{one_more, parameters_never, parameters_is}
use Rattle.dart_parse.proofs.Stages.{expr_never, block_never, block_is}
use Rattle.dart_parse.proofs.knot.+nodes.Goals as goal

pub expr-returns-then-depth-eq0 : goal.expr-returns-then-depth-eq0
expr-returns-then-depth-eq0 t c = expr_never c.args.depth c.args.cascades c.args.cursor.now (omega (arith, c.if-depth-eq0.true))

pub expr-returns : goal.expr-returns
expr-returns t c =
    let d : (c.args.depth - 1) + 1 ≡ c.args.depth = omega (arith, c.if-depth-eq0.false) in
    subst (λ (m : ℕ). GivesHigh open_expr open_expr_height m (expr_at m c.args.cascades c.args.cursor.now) c.expr_over.result c.expr_over.new.cursor) d c.expr_over.ensures

pub parameters-returns-then-depth-eq0 : goal.parameters-returns-then-depth-eq0
parameters-returns-then-depth-eq0 t c = parameters_never c.args.depth c.args.cursor.now (omega (arith, c.if-depth-eq0.true))

pub parameters-returns : goal.parameters-returns
parameters-returns t c =
    let d = c.args.depth in
    let start = c.args.cursor.now in
    one_more view.parameters height.parameters_height d (parameters_at d start) (parameters_over (parameter_at (d - 1)) (closed_at (d - 1)) start) c.parameters_over.result c.parameters_over.new.cursor (omega (arith, c.if-depth-eq0.false))
    (parameters_is d start (omega (arith, c.if-depth-eq0.false))) c.parameters_over.ensures

pub block-returns-then-depth-eq0 : goal.block-returns-then-depth-eq0
block-returns-then-depth-eq0 t c = block_never c.args.depth c.args.cursor.now (omega (arith, c.if-depth-eq0.true))

pub block-returns : goal.block-returns
block-returns t c =
    let d = c.args.depth in
    let start = c.args.cursor.now in
    one_more block_of height.block_height d (block_at d start) (block_over (d - 1) (stmt_at (d - 1)) start) c.block_over.result c.block_over.new.cursor (omega (arith, c.if-depth-eq0.false))
    (block_is d start (omega (arith, c.if-depth-eq0.false))) c.block_over.ensures
