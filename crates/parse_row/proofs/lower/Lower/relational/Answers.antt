use Rattle.std.proofs.Common.{sym}
use Rattle.parse_unary.specs.Views.{open_operand, open_operand_height}
use Rattle.parse_row.specs.Rows.{compare_row, compare_behind}
use Rattle.parse_row.proofs.Behind.{compare_stops, compare_goes}
use Rattle.parse_row.proofs.Passing.{gives_by}
use Rattle.parse_row.proofs.lower.Lower.relational.Goals as goal

pub returns-then-not-compares : goal.returns-then-not-compares
returns-then-not-compares g c =
    (compare_stops c.args.depth c.args.self.now.depth (open_operand c.args.first) c.args.cursor.now c.args.row (sym c.if-not-compares.ensures.same), c.requires.tall, c.requires.low)

pub returns : goal.returns
returns g c =
    let d = c.args.depth in
    let u = c.args.self.now.depth in
    let x = open_operand c.args.first in
    gives_by open_operand open_operand_height d (compare_row d u c.args.row x c.args.cursor.now) (compare_behind u c.args.row x.0 x.1 c.args.cursor.now) c.compared.result c.compared.new.cursor
    (compare_goes d u x c.args.cursor.now c.args.row (sym c.if-not-compares.ensures.same)) c.compared.ensures
