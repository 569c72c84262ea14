use Rattle.std.proofs.Common.{◌-◌, arith}
use Rattle.dart_tree.specs.Depth as height
use Rattle.dart_tree.specs.View as view
use Rattle.parse_parameter.proofs.Stages.{one_more}
use Rattle.syntax_readers.specs.Statements.{stage, compound_over}
use Rattle.parse_stmt.specs.Views.{compound_at}
use Rattle.parse_stmt.proofs.Stages.{compound_never, compound_is}
use Rattle.parse_stmt.proofs.statement.compound.Goals as goal

pub returns-then-depth-eq0 : goal.returns-then-depth-eq0
returns-then-depth-eq0 g c = compound_never c.args.depth c.args.cursor.now (omega (arith, c.if-depth-eq0.true))

pub compound_over-requires-clause-stmts : goal.compound_over-requires-clause-stmts
compound_over-requires-clause-stmts g c = c.requires.stmts (omega (arith, c.if-depth-eq0.false))

pub returns : goal.returns
returns g c =
    let d = c.args.depth in
    let start = c.args.cursor.now in
    let some = c.if-depth-eq0.false in
    one_more view.stmt height.stmt_height d (compound_at d start) (compound_over (d - 1) (stage (d - 1)) start) c.compound_over.result c.compound_over.new.cursor (omega (arith, some))
    (compound_is d start (omega (arith, some))) c.compound_over.ensures
