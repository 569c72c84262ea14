use Rattle.std.proofs.lemmas.Result.{err_from_is_err_and}
use Rattle.dart_tree.specs.View as view
use Rattle.token_cursor.proofs.Passing.{passes}
use Rattle.syntax_readers.specs.Expressions.{opened}
use Rattle.syntax_readers.specs.Levels.{assigns}
use Rattle.parse_unary.specs.Views.{open_operand, open_operand_height, row_reader}
use Rattle.std.proofs.Common.{◌∙◌}
use Rattle.parse_expr.proofs.Halving.{halved_fails, halved_gives, half_at}
use Rattle.parse_expr.proofs.expr.opened.Goals as goal
use Rattle.parse_nest.specs.Stages.{levels_at}

pub returns-in_err-operand : goal.returns-in_err-operand
unfolding opened
returns-in_err-operand g c =
    let p = err_from_is_err_and c.from_residual.result c.from_residual.ensures.1 in
    let d = c.args.depth in
    rw (p.1, p.2) (passes open_operand open_operand_height d (row_reader d 11 c.args.cursor.now) open_operand open_operand_height d (opened (levels_at d) c.args.cursor.now) c.in_err-operand.field-0.0 c.row.new.cursor
    (λ rest e. halved_fails assigns (row_reader d 11) c.args.cursor.now rest e) c.in_err-operand.ensures)

pub returns : goal.returns
unfolding opened
returns g c =
    let d = c.args.depth in
    let r = c.in_ok-operand.ensures in
    let x = view.operand c.in_ok-operand.operand in (
      halved_gives assigns (row_reader d 11) c.args.cursor.now c.row.new.cursor c.half_behind-half.new.cursor x c.in_ok-operand.half c.half_behind-half.result r.0
          (half_at c.in_ok-operand.half c.assigns-may.result (assigns x) c.row.new.cursor c.assigns-may.ensures ∙ c.half_behind-half.ensures),
      r.1,
      r.2,
    )
