use Rattle.std.proofs.Common.{◌-◌, arith}
use Rattle.dart_tree.specs.Depth as height
use Rattle.dart_tree.specs.UnitView as unit_view
use Rattle.syntax_readers.specs.Declarations as spec
use Rattle.parse_nest.specs.Stages.{exprs_at}
use Rattle.parse_parameter.proofs.Stages.{one_more}
use Rattle.parse_callable.specs.Views.{external_if}
use Rattle.parse_callable.proofs.Stages.{accessor_never, accessor_is}
use Rattle.parse_callable.proofs.accessor.accessor.Goals as goal

pub returns-then-depth-eq0 : goal.returns-then-depth-eq0
returns-then-depth-eq0 g c = accessor_never (external_if c.args.external) c.args.depth c.args.cursor.now (omega (arith, c.if-depth-eq0.true))

pub returns : goal.returns
returns g c =
    let d = c.args.depth in
    let start = c.args.cursor.now in
    let external = external_if c.args.external in
    one_more unit_view.accessor height.accessor_height d (spec.accessor external d start) (spec.accessor_over (exprs_at (d - 1)) external start)
    c.accessor_over.result c.accessor_over.new.cursor (omega (arith, c.if-depth-eq0.false))
    (accessor_is external d start (omega (arith, c.if-depth-eq0.false))) c.accessor_over.ensures
