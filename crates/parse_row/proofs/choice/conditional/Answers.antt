use Rattle.std.proofs.Common.{◌-◌, sym}
use Rattle.parse_unary.specs.Views.{open_operand, open_operand_height}
use Rattle.parse_row.specs.Rows.{choice_row, choice_behind}
use Rattle.parse_row.proofs.Behind.{choice_stops, choice_goes}
use Rattle.parse_row.proofs.Passing.{gives_by}
use Rattle.parse_row.proofs.choice.conditional.Goals as goal

pub returns-then-not-chooses : goal.returns-then-not-chooses
returns-then-not-chooses g c =
    (choice_stops c.args.depth (c.args.depth - 1) (open_operand c.args.first) c.args.cursor.now (sym c.if-not-chooses.ensures.same), c.requires.tall, c.requires.low)

pub returns : goal.returns
returns g c =
    let d = c.args.depth in
    let x = open_operand c.args.first in
    gives_by open_operand open_operand_height d (choice_row d (d - 1) x c.args.cursor.now) (choice_behind (d - 1) x.0 c.args.cursor.now) c.choice.result c.choice.new.cursor
    (choice_goes d (d - 1) x c.args.cursor.now (sym c.if-not-chooses.ensures.same)) c.choice.ensures
