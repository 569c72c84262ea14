use Rattle.std.proofs.Common.{◌-◌, ◌+◌, ◌≡◌, arith}
use Rattle.parse_unary.specs.Views.{open_operand, open_operand_height}
use Rattle.syntax_readers.specs.Levels.{whole}
use Rattle.parse_row.specs.Rows.{behind, sign_row, shift_row, compare_row, choice_row}
use Rattle.parse_row.proofs.Passing.{gives_by}
use Rattle.parse_row.proofs.Steps.{sign_behind, once_behind, shift_behind, compare_is_behind, choice_is_behind}
use Rattle.parse_row.proofs.rows.step.Goals as goal

pub returns-then-row-eq-SHIFT_ROW : goal.returns-then-row-eq-SHIFT_ROW
returns-then-row-eq-SHIFT_ROW g c =
    let d = c.args.depth in
    let u = c.args.lower.now.depth in
    let r = c.args.row in
    let x = open_operand c.args.first in
    let ts = c.args.cursor.now in
    gives_by open_operand open_operand_height d (behind d r x ts) (shift_row d u r x ts) c.shift.result c.shift.new.cursor
    (shift_behind d u r x ts c.requires.under c.if-row-eq-SHIFT_ROW.true) c.shift.ensures

pub returns-then-row-eq-COMPARE_ROW : goal.returns-then-row-eq-COMPARE_ROW
returns-then-row-eq-COMPARE_ROW g c =
    let d = c.args.depth in
    let u = c.args.lower.now.depth in
    let r = c.args.row in
    let x = open_operand c.args.first in
    let ts = c.args.cursor.now in
    gives_by open_operand open_operand_height d (behind d r x ts) (compare_row d u r x ts) c.relational.result c.relational.new.cursor
    (compare_is_behind d u r x ts c.requires.under c.if-row-eq-COMPARE_ROW.true) c.relational.ensures

pub returns-then-row-eq-EQUAL_ROW : goal.returns-then-row-eq-EQUAL_ROW
returns-then-row-eq-EQUAL_ROW g c =
    let d = c.args.depth in
    let u = c.args.lower.now.depth in
    let r = c.args.row in
    let x = open_operand c.args.first in
    let ts = c.args.cursor.now in
    gives_by open_operand open_operand_height d (behind d r x ts) (whole (sign_row d u r x) ts) c.equality.result c.equality.new.cursor
    (once_behind d u r x ts c.requires.under c.if-row-eq-EQUAL_ROW.true) c.equality.ensures

pub returns-then-row-eq-CHOICE_ROW : goal.returns-then-row-eq-CHOICE_ROW
returns-then-row-eq-CHOICE_ROW g c =
    let d = c.args.depth in
    let r = c.args.row in
    let x = open_operand c.args.first in
    let ts = c.args.cursor.now in
    let more : (d - 1) + 1 ≡ d = omega (arith, c.requires.under) in
    gives_by open_operand open_operand_height d (behind d r x ts) (choice_row d (d - 1) x ts) c.conditional.result c.conditional.new.cursor
    (choice_is_behind d (d - 1) r x ts more c.if-row-eq-CHOICE_ROW.true) c.conditional.ensures

pub returns : goal.returns
returns g c =
    let d = c.args.depth in
    let u = c.args.lower.now.depth in
    let r = c.args.row in
    let x = open_operand c.args.first in
    let ts = c.args.cursor.now in
    gives_by open_operand open_operand_height d (behind d r x ts) (sign_row d u r x ts) c.signed.result c.signed.new.cursor
    (sign_behind d u r x ts c.requires.under c.if-row-eq-SHIFT_ROW.false c.if-row-eq-COMPARE_ROW.false c.if-row-eq-EQUAL_ROW.false c.if-row-eq-CHOICE_ROW.false) c.signed.ensures
