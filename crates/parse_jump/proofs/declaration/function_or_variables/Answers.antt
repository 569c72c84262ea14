use Rattle.dart_tree.specs.Depth as height
use Rattle.dart_tree.specs.Tree as t
use Rattle.dart_tree.specs.View as view
use Rattle.grammar_laws.specs.Readers.{mapped}
use Rattle.parse_parameter.specs.Views.{variables_at, local_function_at}
use Rattle.parse_parameter.proofs.Trying.{reads, tries}
use Rattle.parse_jump.proofs.declaration.function_or_variables.Goals as goal

pub returns-in-Ok : goal.returns-in-Ok
returns-in-Ok g c =
    let d = c.args.depth in
    let start = c.args.cursor.now in
    reads view.stmt height.stmt_height d (mapped t.function_stmt (local_function_at d) start) (mapped t.variables_stmt (variables_at d) start) c.in-Ok.found c.function_stmt.new.cursor c.in-Ok.ensures

pub returns-in-Err-Stuck : goal.returns-in-Err-Stuck
returns-in-Err-Stuck g c =
    let d = c.args.depth in
    let start = c.args.cursor.now in
    tries view.stmt height.stmt_height d (mapped t.function_stmt (local_function_at d) start) (mapped t.variables_stmt (variables_at d) start) c.function_stmt.new.cursor c.variables_stmt-variables.new.cursor c.settle.new.cursor c.variables_stmt-variables.result
    (rw c.in-Err-Stuck.field-0-is at c.in-Err-Stuck.ensures) (rw c.fork-second.ensures at c.variables_stmt-variables.ensures) (rw c.is_ok.ensures.value at c.settle.ensures)
