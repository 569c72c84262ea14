use Rattle.dart_tree.specs.Depth as height
use Rattle.dart_tree.specs.Unit as u
use Rattle.dart_tree.specs.UnitView as unit_view
use Rattle.grammar_laws.specs.Readers.{mapped}
use Rattle.syntax_readers.specs.Declarations as spec
use Rattle.parse_callable.specs.Views.{external_if}
use Rattle.parse_parameter.proofs.Trying.{reads, tries}
use Rattle.parse_callable.proofs.member.callable.Goals as goal

pub returns-in-Ok : goal.returns-in-Ok
unfolding spec.callable
returns-in-Ok g c =
    let d = c.args.depth in
    let start = c.args.cursor.now in
    let external = external_if c.args.external in
    reads unit_view.member_kind height.member_kind_height d
    (mapped u.accessor_member (spec.accessor external d) start) (mapped u.function_member (spec.function external d) start)
    c.in-Ok.found c.member_accessor.new.cursor c.in-Ok.ensures

pub returns-in-Err-Stuck : goal.returns-in-Err-Stuck
unfolding spec.callable
returns-in-Err-Stuck g c =
    let d = c.args.depth in
    let start = c.args.cursor.now in
    let external = external_if c.args.external in
    tries unit_view.member_kind height.member_kind_height d
    (mapped u.accessor_member (spec.accessor external d) start) (mapped u.function_member (spec.function external d) start)
    c.member_accessor.new.cursor c.member_function-function.new.cursor c.settle.new.cursor c.member_function-function.result
    (rw c.in-Err-Stuck.field-0-is at c.in-Err-Stuck.ensures) (rw c.fork-second.ensures at c.member_function-function.ensures)
    (rw c.is_ok.ensures.value at c.settle.ensures)
