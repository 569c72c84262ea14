use Rattle.std.proofs.Common.{◌-◌, arith}
use Rattle.dart_tree.specs.Depth as height
use Rattle.dart_tree.specs.Lists.{block_of}
use Rattle.syntax_readers.specs.Statements.{block_over}
use Rattle.parse_nest.specs.Stages.{stmt_at, block_at}
use Rattle.parse_parameter.proofs.Stages.{one_more}
use Rattle.parse_block.proofs.Stages.{block_never, block_is}
use Rattle.parse_block.proofs.block.block.Goals as goal

pub returns-then-depth-eq0 : goal.returns-then-depth-eq0
returns-then-depth-eq0 g c = block_never c.args.depth c.args.cursor.now (omega (arith, c.if-depth-eq0.true))

pub returns : goal.returns
returns g c =
    let d = c.args.depth in
    let start = c.args.cursor.now in
    one_more block_of height.block_height d (block_at d start) (block_over (d - 1) (stmt_at (d - 1)) start) c.block_over.result c.block_over.new.cursor (omega (arith, c.if-depth-eq0.false))
    (block_is d start (omega (arith, c.if-depth-eq0.false))) c.block_over.ensures
