use Rattle.std.proofs.Common.{◌-◌, ◌+◌, sym, arith}
use Rattle.std.proofs.lemmas.Result.{err_from_is_err_and}
use Rattle.token_cursor.proofs.Passing.{passes}
use Rattle.parse_row.specs.Rows.{item, tails_behind, left_of, view_item, item_height, view_tails, open_tails_height}
use Rattle.parse_row.proofs.Tails.{begins, stops, fails, goes_on, none_first, first_read, left_over, left_stops, left_fails, left_more}
use Rattle.parse_row.proofs.lower.Lower.tails.Goals as goal

pub returns-in_err-first : goal.returns-in_err-first
returns-in_err-first g c =
    let p = err_from_is_err_and c.from_residual.result c.from_residual.ensures.1 in
    let d = c.args.self.now.depth in
    rw (p.1, p.2) (passes view_item item_height d (item d c.args.row c.args.cursor.now) view_tails open_tails_height d (tails_behind d c.args.row c.args.cursor.now) c.in_err-first.field-0.0 c.tail.new.cursor
    (λ end e. none_first d c.args.row c.args.cursor.now end e) c.in_err-first.ensures)

pub loop-turn-init : goal.loop-turn-init
loop-turn-init g c =
    let r = c.in_ok-first.ensures in
    let d = c.args.self.now.depth in
    begins d (tails_behind d c.args.row c.args.cursor.now) c.in_ok-first.first c.in_ok-first.behind c.push.new.self.items c.in_ok-first.high (left_of d c.args.row c.goes_on-more.result (c.left-turn-end.result - 0) c.tail.new.cursor)
    (first_read d c.args.row c.args.cursor.now c.tail.new.cursor (view_item (c.in_ok-first.first, c.in_ok-first.behind)) c.goes_on-more.result (c.left-turn-end.result - 0) r.0 c.goes_on-more.ensures (omega (arith, c.left-turn-end.ensures)))
    (rw c.new-found.ensures.items at c.in_ok-push.ensures.items) r.1 r.2

pub returns-then-not-another_comes : goal.returns-then-not-another_comes
returns-then-not-another_comes g c =
    let i = c.loop-turn.invariant in
    let d = c.args.self.now.depth in
    let l = c.loop-turn in (
      stops d (tails_behind d c.args.row c.args.cursor.now) l.found.items l.half l.highest (left_of d c.args.row l.more (c.left-turn-end.result - l._turn) l.cursor) l.cursor i
          (left_stops d c.args.row l.more c.left-turn-end.result l._turn l.cursor c.loop-turn-test.true (sym c.if-not-another_comes.ensures)),
      i.high,
      i.low,
    )

pub returns-in_err-next : goal.returns-in_err-next
returns-in_err-next g c =
    let p = err_from_is_err_and c.from_residual-in_err-next.result c.from_residual-in_err-next.ensures.1 in
    let d = c.args.self.now.depth in
    let l = c.loop-turn in
    rw (p.1, p.2) (passes view_item item_height d (item d c.args.row l.cursor) view_tails open_tails_height d (tails_behind d c.args.row c.args.cursor.now) c.in_err-next.field-0.0 c.tail-in-loop-turn.new.cursor
    (λ end e. fails d (tails_behind d c.args.row c.args.cursor.now) l.found.items l.half l.highest (left_of d c.args.row l.more (c.left-turn-end.result - l._turn) l.cursor) end l.invariant
    (left_fails d c.args.row l.more c.left-turn-end.result l._turn l.cursor end c.loop-turn-test.true (sym c.if-not-another_comes.ensures) e)) c.in_err-next.ensures)

pub loop-turn-preserved : goal.loop-turn-preserved
loop-turn-preserved g c =
    let r = c.in_ok-next.ensures in
    let d = c.args.self.now.depth in
    let l = c.loop-turn in
    goes_on d (tails_behind d c.args.row c.args.cursor.now) l.found.items c.push-in-loop-turn.new.self.items l.half c.in_ok-next.behind l.highest c.max-highest.result
    (left_of d c.args.row l.more (c.left-turn-end.result - l._turn) l.cursor) (left_of d c.args.row c.goes_on-more-in-loop-turn.result (c.left-turn-end.result - (l._turn + 1)) c.tail-in-loop-turn.new.cursor) c.in_ok-next.next l.invariant
    (left_more d c.args.row l.more c.goes_on-more-in-loop-turn.result c.left-turn-end.result l._turn l.cursor c.tail-in-loop-turn.new.cursor (view_item (c.in_ok-next.next, c.in_ok-next.behind)) c.loop-turn-test.true (sym c.if-not-another_comes.ensures) r.0 c.goes_on-more-in-loop-turn.ensures)
    c.in_ok-push-2.ensures.items (omega (arith, c.max-highest.ensures, r.1)) (omega (arith, r.1, r.2))

pub returns : goal.returns
returns g c =
    let i = c.loop-turn.invariant in
    let d = c.args.self.now.depth in
    let l = c.loop-turn in (
      stops d (tails_behind d c.args.row c.args.cursor.now) l.found.items l.half l.highest (left_of d c.args.row l.more (c.left-turn-end.result - l._turn) l.cursor) l.cursor i
          (left_over d c.args.row l.more c.left-turn-end.result l._turn l.cursor (omega (arith, c.loop-turn-test.false))),
      i.high,
      i.low,
    )
