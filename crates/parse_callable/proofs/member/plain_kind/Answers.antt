use Rattle.dart_tree.specs.Depth as height
use Rattle.dart_tree.specs.Unit as u
use Rattle.dart_tree.specs.UnitView as unit_view
use Rattle.grammar_laws.specs.Readers.{mapped}
use Rattle.syntax_readers.specs.Declarations as spec
use Rattle.parse_nest.specs.Stages.{exprs_at}
use Rattle.parse_parameter.proofs.Trying.{reads, tries}
use Rattle.parse_callable.proofs.member.plain_kind.Goals as goal

pub returns-in-Ok : goal.returns-in-Ok
returns-in-Ok g c =
    let d = c.args.depth in
    let start = c.args.cursor.now in
    reads unit_view.member_kind height.member_kind_height d
    (spec.callable_or_variables d spec.external_or_none start) (mapped u.operator_member (spec.operator_member (exprs_at d)) start)
    c.in-Ok.found c.callable_or_variables.new.cursor c.in-Ok.ensures

pub returns-in-Err-Stuck : goal.returns-in-Err-Stuck
returns-in-Err-Stuck g c =
    let d = c.args.depth in
    let start = c.args.cursor.now in
    tries unit_view.member_kind height.member_kind_height d
    (spec.callable_or_variables d spec.external_or_none start) (mapped u.operator_member (spec.operator_member (exprs_at d)) start)
    c.callable_or_variables.new.cursor c.member_operator-operator.new.cursor c.settle.new.cursor c.member_operator-operator.result
    (rw c.in-Err-Stuck.field-0-is at c.in-Err-Stuck.ensures) (rw c.fork-second.ensures at c.member_operator-operator.ensures)
    (rw c.is_ok.ensures.value at c.settle.ensures)
