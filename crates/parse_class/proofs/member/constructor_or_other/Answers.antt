use Rattle.syntax_readers.specs.Declarations as spec
use Rattle.parse_callable.specs.Views.{modified_of, modified_height}
use Rattle.parse_parameter.proofs.Trying.{reads, tries}
use Rattle.parse_class.proofs.member.constructor_or_other.Goals as goal

pub returns-in-Ok : goal.returns-in-Ok
returns-in-Ok g c =
    let d = c.args.depth in
    let start = c.args.cursor.now in
    reads modified_of modified_height d (spec.constructor_member d c.args.class.now start) (spec.other_member d start) c.in-Ok.found
    c.constructor_member.new.cursor c.in-Ok.ensures

pub returns-in-Err-Stuck : goal.returns-in-Err-Stuck
returns-in-Err-Stuck g c =
    let d = c.args.depth in
    let start = c.args.cursor.now in
    tries modified_of modified_height d (spec.constructor_member d c.args.class.now start) (spec.other_member d start)
    c.constructor_member.new.cursor c.other_member-other.new.cursor c.settle.new.cursor c.other_member-other.result
    (rw c.in-Err-Stuck.field-0-is at c.in-Err-Stuck.ensures) (rw c.fork-second.ensures at c.other_member-other.ensures)
    (rw c.is_ok.ensures.value at c.settle.ensures)
