use Rattle.parse_unary.specs.Views.{open_operand, open_operand_height, row_reader}
use Rattle.parse_row.proofs.Passing.{gives_by}
use Rattle.parse_row.proofs.Steps.{flat_row}
use Rattle.parse_row.proofs.rows.flat.Goals as goal

pub returns : goal.returns
returns g c =
    gives_by open_operand open_operand_height 0 (row_reader 0 c.args.row c.args.cursor.now) (row_reader 0 0 c.args.cursor.now) c.unary.result c.unary.new.cursor (flat_row c.args.row c.args.cursor.now) c.unary.ensures
