use Rattle.std.proofs.Common.{◌-◌, arith}
use Rattle.dart_tree.specs.UnitView as view
use Rattle.syntax_readers.specs.Declarations as spec
use Rattle.syntax_readers.specs.Statements.{stage}
use Rattle.parse_parameter.proofs.Stages.{one_more}
use Rattle.parse_constructor.specs.Views.{init_height}
use Rattle.parse_constructor.proofs.Stages.{init_never, init_is}
use Rattle.parse_constructor.proofs.initializer.init.Goals as goal

pub returns-then-depth-eq0 : goal.returns-then-depth-eq0
returns-then-depth-eq0 g c = init_never c.args.depth c.args.cursor.now (omega (arith, c.if-depth-eq0.true))

pub returns : goal.returns
returns g c =
    let d = c.args.depth in
    let start = c.args.cursor.now in
    one_more view.init_kind init_height d (spec.init d start) (spec.init_over (stage (d - 1)) start) c.init_over.result c.init_over.new.cursor
    (omega (arith, c.if-depth-eq0.false))
    (init_is d start (omega (arith, c.if-depth-eq0.false))) c.init_over.ensures
