use Rattle.std.proofs.lemmas.Result.{err_from_is_err_and}
use Rattle.token_cursor.proofs.Passing.{passes}
use Rattle.syntax_readers.specs.Expressions.{opened}
use Rattle.parse_nest.specs.Open.{open_expr, open_expr_height}
use Rattle.parse_unary.specs.Views.{open_operand, open_operand_height}
use Rattle.std.proofs.Common.{◌+◌, refl}
use Rattle.parse_expr.specs.Views.{operand_first}
use Rattle.parse_expr.proofs.expr.operand_first.Goals as goal
use Rattle.parse_nest.specs.Stages.{levels_at}

pub returns-in_err-first : goal.returns-in_err-first
returns-in_err-first g c =
    let p = err_from_is_err_and c.from_residual.result c.from_residual.ensures.1 in
    let d = c.args.depth in
    rw (p.1, p.2) (passes open_operand open_operand_height d (opened (levels_at d) c.args.cursor.now) open_expr open_expr_height (d + 1) (operand_first d c.args.cascades c.args.cursor.now) c.in_err-first.field-0.0 c.opened.new.cursor
    (λ rest e. rw e refl) c.in_err-first.ensures)

pub returns : goal.returns
returns g c = rw (c.in_ok-first.ensures.0) c.behind.ensures
