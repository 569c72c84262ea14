use Rattle.dart_tree.specs.Depth as height
use Rattle.dart_tree.specs.View as view
use Rattle.syntax_readers.specs.Statements as spec
use Rattle.parse_nest.specs.Stages.{nodes_at}
use Rattle.parse_primary.proofs.Trying.{past_reads, past_fails}
use Rattle.parse_stmt.proofs.statement.unlabelled_past_name.Goals as goal

pub returns-in-Ok : goal.returns-in-Ok
returns-in-Ok g c =
    let d = c.args.depth in
    past_reads view.stmt height.stmt_height d (spec.unlabelled (nodes_at d)) c.args.cursor.now c.unlabelled.new.cursor c.in-Ok.found c.in-Ok.ensures

pub returns-in-Err : goal.returns-in-Err
returns-in-Err g c =
    let d = c.args.depth in
    past_fails view.stmt height.stmt_height d (spec.unlabelled (nodes_at d)) c.args.cursor.now c.fork-start.result c.unlabelled.new.cursor c.pass_name.new.cursor c.in-Err.fault c.fork-start.ensures c.pass_name.ensures c.in-Err.ensures
