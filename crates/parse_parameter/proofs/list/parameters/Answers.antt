use Rattle.std.proofs.Common.{◌-◌, arith}
use Rattle.dart_tree.specs.Depth as height
use Rattle.dart_tree.specs.View as view
use Rattle.syntax_readers.specs.Parameters.{parameters_over}
use Rattle.parse_nest.specs.Stages.{closed_at, parameters_at}
use Rattle.parse_parameter.specs.Views.{parameter_at}
use Rattle.parse_parameter.proofs.Stages.{one_more, parameters_never, parameters_is}
use Rattle.parse_parameter.proofs.list.parameters.Goals as goal

pub returns-then-depth-eq0 : goal.returns-then-depth-eq0
returns-then-depth-eq0 g c = parameters_never c.args.depth c.args.cursor.now (omega (arith, c.if-depth-eq0.true))

pub returns : goal.returns
returns g c =
    let d = c.args.depth in
    let start = c.args.cursor.now in
    one_more view.parameters height.parameters_height d (parameters_at d start) (parameters_over (parameter_at (d - 1)) (closed_at (d - 1)) start) c.parameters_over.result c.parameters_over.new.cursor (omega (arith, c.if-depth-eq0.false))
    (parameters_is d start (omega (arith, c.if-depth-eq0.false))) c.parameters_over.ensures
