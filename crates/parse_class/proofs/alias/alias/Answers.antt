use Rattle.std.proofs.Common.{ℕ, ◌-◌, arith}
use Rattle.dart_tree.specs.Depth as height
use Rattle.dart_tree.specs.UnitView as view
use Rattle.syntax_readers.specs.Declarations as spec
use Rattle.parse_nest.specs.Stages.{exprs_at}
use Rattle.parse_parameter.proofs.Stages.{one_more}
use Rattle.parse_class.proofs.Nodes.{node_never, node_is}
use Rattle.parse_class.proofs.alias.alias.Goals as goal

pub returns-then-depth-eq0 : goal.returns-then-depth-eq0
returns-then-depth-eq0 g c = node_never (λ (m : ℕ). spec.alias (exprs_at m)) c.args.depth c.args.cursor.now (omega (arith, c.if-depth-eq0.true))

pub returns : goal.returns
returns g c =
    let d = c.args.depth in
    let start = c.args.cursor.now in
    one_more view.alias height.alias_height d (spec.node (λ (m : ℕ). spec.alias (exprs_at m)) d start)
    (spec.alias (exprs_at (d - 1)) start) c.either_alias.result c.either_alias.new.cursor (omega (arith, c.if-depth-eq0.false))
    (node_is (λ (m : ℕ). spec.alias (exprs_at m)) d start (omega (arith, c.if-depth-eq0.false))) c.either_alias.ensures
