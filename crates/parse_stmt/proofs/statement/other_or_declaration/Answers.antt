use Rattle.dart_tree.specs.Depth as height
use Rattle.dart_tree.specs.View as view
use Rattle.parse_nest.specs.Stages.{nodes_at}
use Rattle.syntax_readers.specs.Statements.{other_stmt, declaration}
use Rattle.parse_parameter.proofs.Trying.{reads, tries}
use Rattle.parse_stmt.proofs.statement.other_or_declaration.Goals as goal

pub returns-in-Ok : goal.returns-in-Ok
returns-in-Ok g c =
    let d = c.args.depth in
    let start = c.args.cursor.now in
    reads view.stmt height.stmt_height d (other_stmt (nodes_at d) start) (declaration (nodes_at d) start) c.in-Ok.found c.other_stmt.new.cursor c.in-Ok.ensures

pub returns-in-Err-Stuck : goal.returns-in-Err-Stuck
returns-in-Err-Stuck g c =
    let d = c.args.depth in
    let start = c.args.cursor.now in
    tries view.stmt height.stmt_height d (other_stmt (nodes_at d) start) (declaration (nodes_at d) start) c.other_stmt.new.cursor c.declaration-declared.new.cursor c.settle.new.cursor c.declaration-declared.result
    (rw c.in-Err-Stuck.field-0-is at c.in-Err-Stuck.ensures) (rw c.fork-second.ensures at c.declaration-declared.ensures) (rw c.is_ok.ensures.value at c.settle.ensures)
