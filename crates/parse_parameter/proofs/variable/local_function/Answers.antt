use Rattle.std.proofs.Common.{◌-◌, arith}
use Rattle.dart_tree.specs.Depth as height
use Rattle.dart_tree.specs.View as view
use Rattle.std.proofs.Common.{None}
use Rattle.syntax_readers.specs.Combinators.{always_gives}
use Rattle.syntax_readers.specs.Parameters.{function_over, whole_body}
use Rattle.parse_parameter.specs.Views.{local_function_at}
use Rattle.parse_parameter.proofs.Stages.{one_more, function_never, function_is}
use Rattle.parse_parameter.proofs.variable.local_function.Goals as goal
use Rattle.parse_nest.specs.Stages.{exprs_at}

pub returns-then-depth-eq0 : goal.returns-then-depth-eq0
returns-then-depth-eq0 g c = function_never c.args.depth c.args.cursor.now (omega (arith, c.if-depth-eq0.true))

pub returns : goal.returns
returns g c =
    let d = c.args.depth in
    let start = c.args.cursor.now in
    one_more view.function height.function_height d (local_function_at d start) (function_over (exprs_at (d - 1)) (always_gives None) (whole_body (exprs_at (d - 1))) start) c.local_function_over.result c.local_function_over.new.cursor (omega (arith, c.if-depth-eq0.false))
    (function_is d start (omega (arith, c.if-depth-eq0.false))) c.local_function_over.ensures
