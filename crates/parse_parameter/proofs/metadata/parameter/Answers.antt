use Rattle.std.proofs.Common.{◌-◌, arith}
use Rattle.syntax_readers.specs.Parameters.{parameter_over}
use Rattle.parse_parameter.specs.Views.{parameter_at, bare_of, node_height}
use Rattle.parse_parameter.proofs.Stages.{one_more, parameter_never, parameter_is}
use Rattle.parse_parameter.proofs.metadata.parameter.Goals as goal
use Rattle.parse_nest.specs.Stages.{exprs_at}

pub returns-then-depth-eq0 : goal.returns-then-depth-eq0
returns-then-depth-eq0 g c = parameter_never c.args.depth c.args.cursor.now (omega (arith, c.if-depth-eq0.true))

pub returns : goal.returns
returns g c =
    let d = c.args.depth in
    let start = c.args.cursor.now in
    one_more bare_of node_height d (parameter_at d start) (parameter_over (exprs_at (d - 1)) start) c.parameter_over.result c.parameter_over.new.cursor (omega (arith, c.if-depth-eq0.false))
    (parameter_is d start (omega (arith, c.if-depth-eq0.false))) c.parameter_over.ensures
