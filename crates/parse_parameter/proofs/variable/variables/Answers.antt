use Rattle.std.proofs.Common.{◌-◌, arith}
use Rattle.dart_tree.specs.Depth as height
use Rattle.dart_tree.specs.View as view
use Rattle.syntax_readers.specs.Parameters.{variables_over}
use Rattle.syntax_readers.specs.Types.{type_reader}
use Rattle.parse_nest.specs.Stages.{closed_at}
use Rattle.parse_parameter.specs.Views.{variables_at}
use Rattle.parse_parameter.proofs.Stages.{one_more, variables_never, variables_is}
use Rattle.parse_parameter.proofs.variable.variables.Goals as goal

pub returns-then-depth-eq0 : goal.returns-then-depth-eq0
returns-then-depth-eq0 g c = variables_never c.args.depth c.args.cursor.now (omega (arith, c.if-depth-eq0.true))

pub returns : goal.returns
returns g c =
    let d = c.args.depth in
    let start = c.args.cursor.now in
    one_more view.variables height.variables_height d (variables_at d start) (variables_over (type_reader (d - 1)) (closed_at (d - 1)) start) c.variables_over.result c.variables_over.new.cursor (omega (arith, c.if-depth-eq0.false))
    (variables_is d start (omega (arith, c.if-depth-eq0.false))) c.variables_over.ensures
