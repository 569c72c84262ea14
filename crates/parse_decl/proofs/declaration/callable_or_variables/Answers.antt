use Rattle.dart_tree.specs.Depth as height
use Rattle.dart_tree.specs.Unit as d
use Rattle.dart_tree.specs.UnitView as view
use Rattle.grammar_laws.specs.Readers.{mapped, tried}
use Rattle.parse_decl.specs.Views.{accessor_at, function_at}
use Rattle.parse_decl.proofs.declaration.callable_or_variables.Goals as goal
use Rattle.parse_parameter.proofs.Trying.{reads, tries}
use Rattle.parse_parameter.specs.Views.{variables_at}

pub returns-in-Ok : goal.returns-in-Ok
returns-in-Ok g c =
    let n = c.args.depth in
    let start = c.args.cursor.now in
    reads view.decl_kind height.decl_kind_height n (tried (mapped d.accessor_decl (accessor_at n)) (mapped d.function_decl (function_at n)) start) (mapped d.variables_decl (variables_at n) start) c.in-Ok.found c.callable.new.cursor c.in-Ok.ensures

pub returns-in-Err-Stuck : goal.returns-in-Err-Stuck
returns-in-Err-Stuck g c =
    let n = c.args.depth in
    let start = c.args.cursor.now in
    tries view.decl_kind height.decl_kind_height n (tried (mapped d.accessor_decl (accessor_at n)) (mapped d.function_decl (function_at n)) start) (mapped d.variables_decl (variables_at n) start) c.callable.new.cursor c.variables_decl-variables.new.cursor c.settle.new.cursor c.variables_decl-variables.result
    (rw c.in-Err-Stuck.field-0-is at c.in-Err-Stuck.ensures) (rw c.fork-second.ensures at c.variables_decl-variables.ensures) (rw c.is_ok.ensures.value at c.settle.ensures)
