use Rattle.std.proofs.Common.{◌≡◌, ◌∙◌, ◌+◌, ℕ, Ok, sym, subst, arith}
use Rattle.std.proofs.lemmas.Result.{err_from_is_err_and}
use Rattle.token_cursor.proofs.Passing.{passes}
use Rattle.parse_unary.specs.Views.{open_operand, open_operand_height, row_reader}
use Rattle.parse_row.specs.Rows.{behind}
use Rattle.parse_row.proofs.Passed.{rows_passed}
use Rattle.parse_row.proofs.Steps.{climbs_on, row_fails}
use Rattle.parse_row.proofs.rows.climb.Goals as goal

pub returns-in_err-first : goal.returns-in_err-first
returns-in_err-first g c =
    let p = err_from_is_err_and c.from_residual.result c.from_residual.ensures.1 in
    let d = c.args.depth in
    rw (p.1, p.2) (passes open_operand open_operand_height d (row_reader d 0 c.args.cursor.now) open_operand open_operand_height d (row_reader d c.args.row c.args.cursor.now) c.in_err-first.field-0.0 c.unary.new.cursor
    (λ end e. row_fails d 0 c.args.row c.args.cursor.now end (omega arith) e) c.in_err-first.ensures)

pub returns-then-passes_rows : goal.returns-then-passes_rows
returns-then-passes_rows g c =
    let r = c.in_ok-first.ensures in
    (rows_passed c.args.depth c.args.row c.args.cursor.now c.unary.new.cursor (open_operand c.in_ok-first.first) r.0 (sym c.if-passes_rows.ensures), r.1, r.2)

pub loop-i-init : goal.loop-i-init
loop-i-init g c =
    let r = c.in_ok-first.ensures in
    record { read = r.0; tall = r.1; low = r.2 }

pub returns-in_err-above : goal.returns-in_err-above
returns-in_err-above g c =
    let p = err_from_is_err_and c.from_residual-in_err-above.result c.from_residual-in_err-above.ensures.1 in
    let d = c.args.depth in
    let l = c.loop-i in
    rw (p.1, p.2) (passes open_operand open_operand_height d (behind d l.i (open_operand l.operand) l.cursor) open_operand open_operand_height d (row_reader d c.args.row c.args.cursor.now) c.in_err-above.field-0.0 c.step.new.cursor
    (λ end e. row_fails d (l.i + 1) c.args.row c.args.cursor.now end (omega (arith, c.loop-i-test.true)) (climbs_on d l.i c.args.cursor.now l.cursor (open_operand l.operand) l.invariant.read ∙ e)) c.in_err-above.ensures)

pub loop-i-preserved : goal.loop-i-preserved
loop-i-preserved g c =
    let r = c.in_ok-above.ensures in
    let l = c.loop-i in
    record { read = climbs_on c.args.depth l.i c.args.cursor.now l.cursor (open_operand l.operand) l.invariant.read ∙ r.0; tall = r.1; low = r.2 }

pub returns : goal.returns
returns g c =
    let i = c.loop-i.invariant in
    let e : c.loop-i.i ≡ c.args.row = omega (arith, c.loop-i-test.false, c.loop-i.auto.i-end) in
    (subst (λ (r : ℕ). row_reader c.args.depth r c.args.cursor.now ≡ Ok (open_operand c.loop-i.operand, c.loop-i.cursor)) e i.read, i.tall, i.low)
