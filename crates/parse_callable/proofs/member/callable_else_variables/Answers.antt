use Rattle.dart_tree.specs.Depth as height
use Rattle.dart_tree.specs.Unit as u
use Rattle.dart_tree.specs.UnitView as unit_view
use Rattle.grammar_laws.specs.Readers.{mapped}
use Rattle.syntax_readers.specs.Declarations as spec
use Rattle.parse_callable.specs.Views.{external_if}
use Rattle.parse_parameter.specs.Views.{variables_at}
use Rattle.parse_parameter.proofs.Trying.{reads, tries}
use Rattle.parse_callable.proofs.member.callable_else_variables.Goals as goal

pub returns-in-Ok : goal.returns-in-Ok
returns-in-Ok g c =
    let d = c.args.depth in
    let start = c.args.cursor.now in
    let external = external_if c.args.external in
    reads unit_view.member_kind height.member_kind_height d (spec.callable d external start) (mapped u.variables_member (variables_at d) start)
    c.in-Ok.found c.callable.new.cursor c.in-Ok.ensures

pub returns-in-Err-Stuck : goal.returns-in-Err-Stuck
returns-in-Err-Stuck g c =
    let d = c.args.depth in
    let start = c.args.cursor.now in
    let external = external_if c.args.external in
    tries unit_view.member_kind height.member_kind_height d (spec.callable d external start) (mapped u.variables_member (variables_at d) start)
    c.callable.new.cursor c.member_variables-variables.new.cursor c.settle.new.cursor c.member_variables-variables.result
    (rw c.in-Err-Stuck.field-0-is at c.in-Err-Stuck.ensures) (rw c.fork-second.ensures at c.member_variables-variables.ensures)
    (rw c.is_ok.ensures.value at c.settle.ensures)
