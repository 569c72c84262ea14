use Rattle.std.proofs.Common.{◌+◌}
use Rattle.dart_tree.specs.Depth as height
use Rattle.dart_tree.specs.View as view
use Rattle.parse_stmt.specs.Views.{for_variables_at, for_loop_at}
use Rattle.parse_parameter.proofs.Trying.{reads, tries}
use Rattle.parse_stmt.proofs.iterate.counted.Goals as goal

pub returns-in-Ok : goal.returns-in-Ok
returns-in-Ok g c =
    let d = c.args.depth in
    let start = c.args.cursor.now in
    reads view.loop height.loop_height (d + 1) (for_variables_at d start) (for_loop_at d start) c.in-Ok.found c.for_variables.new.cursor c.in-Ok.ensures

pub returns-in-Err-Stuck : goal.returns-in-Err-Stuck
returns-in-Err-Stuck g c =
    let d = c.args.depth in
    let start = c.args.cursor.now in
    tries view.loop height.loop_height (d + 1) (for_variables_at d start) (for_loop_at d start) c.for_variables.new.cursor c.for_loop-plain.new.cursor c.settle.new.cursor c.for_loop-plain.result
    (rw c.in-Err-Stuck.field-0-is at c.in-Err-Stuck.ensures) (rw c.fork-second.ensures at c.for_loop-plain.ensures) (rw c.is_ok.ensures.value at c.settle.ensures)
