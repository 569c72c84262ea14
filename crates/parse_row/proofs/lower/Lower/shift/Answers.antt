use Rattle.dart_tree.specs.View as view
use Rattle.parse_unary.specs.Views.{open_operand, open_operand_height}
use Rattle.parse_row.specs.Rows.{shift_row, shift_from}
use Rattle.parse_row.proofs.Behind.{shift_half}
use Rattle.parse_row.proofs.Passing.{gives_by}
use Rattle.parse_row.proofs.lower.Lower.shift.Goals as goal

pub returns : goal.returns
returns g c =
    let d = c.args.depth in
    let u = c.args.self.now.depth in
    let a = view.operand c.args.first.0 in
    gives_by open_operand open_operand_height d (shift_row d u c.args.row (open_operand c.args.first) c.args.cursor.now) (shift_from d u c.args.row a c.half_behind-half.result c.half_behind-half.new.cursor) c.shift_from.result c.shift_from.new.cursor
    (shift_half d u c.args.row a c.args.cursor.now c.args.first.1 c.half_behind-half.result c.may_shift-may.result c.half_behind-half.new.cursor c.may_shift-may.ensures.same c.half_behind-half.ensures) c.shift_from.ensures
