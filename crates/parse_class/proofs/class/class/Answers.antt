use Rattle.std.proofs.Common.{◌-◌, arith}
use Rattle.dart_tree.specs.Depth as height
use Rattle.dart_tree.specs.UnitView as view
use Rattle.syntax_readers.specs.Declarations as spec
use Rattle.parse_parameter.proofs.Stages.{one_more}
use Rattle.parse_class.proofs.Nodes.{node_never, node_is}
use Rattle.parse_class.proofs.class.class.Goals as goal

pub returns-then-depth-eq0 : goal.returns-then-depth-eq0
returns-then-depth-eq0 g c = node_never spec.class_over c.args.depth c.args.cursor.now (omega (arith, c.if-depth-eq0.true))

pub returns : goal.returns
returns g c =
    let d = c.args.depth in
    let start = c.args.cursor.now in
    one_more view.class height.class_height d (spec.node spec.class_over d start) (spec.class_over (d - 1) start) c.class_over.result
    c.class_over.new.cursor (omega (arith, c.if-depth-eq0.false))
    (node_is spec.class_over d start (omega (arith, c.if-depth-eq0.false))) c.class_over.ensures
