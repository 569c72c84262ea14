use Rattle.std.proofs.Common.{◌-◌, arith}
use Rattle.dart_tree.specs.Depth.{unit_height}
use Rattle.dart_tree.specs.UnitView as view
use Rattle.parse_decl.proofs.Nodes.{unit_is, unit_never}
use Rattle.parse_decl.proofs.unit.unit.Goals as goal
use Rattle.parse_parameter.proofs.Stages.{one_more}
use Rattle.syntax_readers.specs.Units.{unit_over, unit_reader}

pub returns-then-depth-eq0 : goal.returns-then-depth-eq0
returns-then-depth-eq0 g c = unit_never c.args.depth c.args.cursor.now (omega (arith, c.if-depth-eq0.true))

pub returns : goal.returns
returns g c =
    let d = c.args.depth in
    let start = c.args.cursor.now in
    one_more view.unit unit_height d (unit_reader d start) (unit_over (d - 1) start) c.unit_over.result c.unit_over.new.cursor (omega (arith, c.if-depth-eq0.false))
    (unit_is d start (omega (arith, c.if-depth-eq0.false))) c.unit_over.ensures
