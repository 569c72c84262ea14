use Rattle.std.proofs.lemmas.Result.{err_from_is_err_and}
use Rattle.dart_tree.specs.View as view
use Rattle.token_cursor.proofs.Passing.{passes}
use Rattle.parse_unary.specs.Views.{open_operand, open_operand_height}
use Rattle.parse_row.specs.Rows.{whole_row, halved_row}
use Rattle.parse_row.proofs.Behind.{halved_fails, halved_gives}
use Rattle.parse_row.proofs.lower.Lower.halved_row.Goals as goal

pub returns-in_err-operand : goal.returns-in_err-operand
returns-in_err-operand g c =
    let p = err_from_is_err_and c.from_residual.result c.from_residual.ensures.1 in
    let u = c.args.self.now.depth in
    rw (p.1, p.2) (passes open_operand open_operand_height u (whole_row u c.args.row c.args.cursor.now) open_operand open_operand_height u (halved_row u c.args.row c.args.cursor.now) c.in_err-operand.field-0.0 c.whole_row.new.cursor
    (λ end e. halved_fails u c.args.row c.args.cursor.now end e) c.in_err-operand.ensures)

pub returns : goal.returns
returns g c =
    let r = c.in_ok-operand.ensures in
    (halved_gives c.args.self.now.depth c.args.row c.args.cursor.now c.whole_row.new.cursor c.half_behind-half.new.cursor (view.operand c.in_ok-operand.operand) c.in_ok-operand.half c.half_behind-half.result c.leaves_shift-may.result r.0 c.leaves_shift-may.ensures c.half_behind-half.ensures, r.1, r.2)
