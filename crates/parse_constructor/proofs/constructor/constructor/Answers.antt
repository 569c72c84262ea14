use Rattle.std.proofs.Common.{◌-◌, arith}
use Rattle.dart_tree.specs.Depth as height
use Rattle.dart_tree.specs.UnitView as view
use Rattle.syntax_readers.specs.Declarations as spec
use Rattle.parse_nest.specs.Stages.{exprs_at}
use Rattle.parse_parameter.proofs.Stages.{one_more}
use Rattle.parse_constructor.proofs.Stages.{constructor_never, constructor_is}
use Rattle.parse_constructor.proofs.constructor.constructor.Goals as goal

pub returns-then-depth-eq0 : goal.returns-then-depth-eq0
returns-then-depth-eq0 g c = constructor_never c.args.class.now c.args.depth c.args.cursor.now (omega (arith, c.if-depth-eq0.true))

pub returns : goal.returns
returns g c =
    let d = c.args.depth in
    let class = c.args.class.now in
    let start = c.args.cursor.now in
    one_more view.constructor height.constructor_height d (spec.constructor class d start) (spec.constructor_over (exprs_at (d - 1)) (spec.init
    (d - 1)) class start) c.constructor_over.result c.constructor_over.new.cursor (omega (arith, c.if-depth-eq0.false))
    (constructor_is class d start (omega (arith, c.if-depth-eq0.false))) c.constructor_over.ensures
