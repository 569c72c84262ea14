use Rattle.std.proofs.Common.{◌+◌}
use Rattle.dart_tree.specs.Depth as height
use Rattle.dart_tree.specs.UnitView as view
use Rattle.syntax_readers.specs.Declarations as spec
use Rattle.parse_nest.specs.Stages.{exprs_at}
use Rattle.parse_parameter.proofs.Trying.{reads, tries}
use Rattle.parse_constructor.proofs.constructor.any_generative.Goals as goal

pub returns-in-Ok : goal.returns-in-Ok
returns-in-Ok g c =
    let d = c.args.depth in
    let class = c.args.class.now in
    let start = c.args.cursor.now in
    reads view.constructor height.constructor_height (d + 1) (spec.generative (exprs_at d) (spec.init d) class start) (spec.redirecting
    (exprs_at d) class start) c.in-Ok.found c.generative.new.cursor c.in-Ok.ensures

pub returns-in-Err-Stuck : goal.returns-in-Err-Stuck
returns-in-Err-Stuck g c =
    let d = c.args.depth in
    let class = c.args.class.now in
    let start = c.args.cursor.now in
    tries view.constructor height.constructor_height (d + 1) (spec.generative (exprs_at d) (spec.init d) class start) (spec.redirecting
    (exprs_at d) class start) c.generative.new.cursor c.redirecting-found.new.cursor c.settle.new.cursor c.redirecting-found.result
    (rw c.in-Err-Stuck.field-0-is at c.in-Err-Stuck.ensures) (rw c.fork-second.ensures at c.redirecting-found.ensures) (rw c.is_ok.ensures.value at
    c.settle.ensures)
