use Rattle.std.proofs.Common.{◌-◌, arith}
use Rattle.dart_tree.specs.Depth as height
use Rattle.dart_tree.specs.View as view
use Rattle.syntax_readers.specs.Declarations as spec
use Rattle.syntax_readers.specs.Parameters.{body, function_over}
use Rattle.parse_nest.specs.Stages.{exprs_at}
use Rattle.parse_parameter.proofs.Stages.{one_more}
use Rattle.parse_callable.specs.Views.{external_if}
use Rattle.parse_callable.proofs.Stages.{function_never, function_is}
use Rattle.parse_callable.proofs.function.function.Goals as goal

pub returns-then-depth-eq0 : goal.returns-then-depth-eq0
returns-then-depth-eq0 g c = function_never (external_if c.args.external) c.args.depth c.args.cursor.now (omega (arith, c.if-depth-eq0.true))

pub returns : goal.returns
returns g c =
    let d = c.args.depth in
    let start = c.args.cursor.now in
    let external = external_if c.args.external in
    one_more view.function height.function_height d (spec.function external d start) (function_over (exprs_at (d - 1)) external (body (exprs_at (d - 1))) start)
    c.function_over.result c.function_over.new.cursor (omega (arith, c.if-depth-eq0.false))
    (function_is external d start (omega (arith, c.if-depth-eq0.false))) c.function_over.ensures
