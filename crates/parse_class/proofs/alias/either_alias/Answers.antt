use Rattle.std.proofs.Common.{◌+◌, true, false}
use Rattle.dart_tree.specs.Depth as height
use Rattle.dart_tree.specs.UnitView as view
use Rattle.syntax_readers.specs.Declarations as spec
use Rattle.parse_nest.specs.Stages.{exprs_at}
use Rattle.parse_parameter.proofs.Trying.{reads, tries}
use Rattle.parse_class.specs.Views.{result_if}
use Rattle.parse_class.proofs.alias.either_alias.Goals as goal

pub returns-in-Ok : goal.returns-in-Ok
unfolding spec.alias
returns-in-Ok g c =
    let d = c.args.depth in
    let start = c.args.cursor.now in
    let type = (exprs_at d).type in
    reads view.alias height.alias_height (d + 1) (spec.alias_over (exprs_at d) (result_if true type) start)
    (spec.alias_over (exprs_at d) (result_if false type) start) c.in-Ok.found c.alias_over.new.cursor c.in-Ok.ensures

pub returns-in-Err-Stuck : goal.returns-in-Err-Stuck
unfolding spec.alias
returns-in-Err-Stuck g c =
    let d = c.args.depth in
    let start = c.args.cursor.now in
    let type = (exprs_at d).type in
    tries view.alias height.alias_height (d + 1) (spec.alias_over (exprs_at d) (result_if true type) start)
    (spec.alias_over (exprs_at d) (result_if false type) start) c.alias_over.new.cursor c.alias_over-bare.new.cursor c.settle.new.cursor
    c.alias_over-bare.result
    (rw c.in-Err-Stuck.field-0-is at c.in-Err-Stuck.ensures) (rw c.fork-second.ensures at c.alias_over-bare.ensures)
    (rw c.is_ok.ensures.value at c.settle.ensures)
