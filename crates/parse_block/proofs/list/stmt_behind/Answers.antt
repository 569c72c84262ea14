use Rattle.dart_tree.specs.Depth as height
use Rattle.dart_tree.specs.View as view
use Rattle.parse_nest.specs.Stages.{stmt_at}
use Rattle.parse_block.proofs.Behind.{beside}
use Rattle.parse_block.proofs.list.stmt_behind.Goals as goal

pub returns : goal.returns
returns g c =
    let d = c.args.depth in
    beside view.stmt height.stmt_height d (stmt_at d) c.args.cursor.now c.args.room c.in-Some.room c.pass_on.new.cursor c.stmt-found.new.cursor c.settle.new.cursor c.stmt-found.result
    c.in-Some.is c.in_ok-pass_on.ensures (rw c.fork-second.ensures at c.stmt-found.ensures) (rw c.is_ok.ensures.value at c.settle.ensures)
