use Rattle.std.proofs.Common.{◌≡◌, ◌-◌, ◌∙◌, ℕ, length, refl, sym, ap, arith}
use Rattle.std.proofs.lemmas.Result.{err_from_is_err_and}
use Rattle.dart_tree.specs.Depth as height
use Rattle.dart_tree.specs.Lists.{try_parts_of}
use Rattle.syntax_readers.specs.Combinators.{many_where, many_where_turns}
use Rattle.syntax_readers.specs.Statements.{try_part_comes}
use Rattle.syntax_readers.specs.Types.{type_reader}
use Rattle.token_cursor.proofs.Passing.{passes}
use Rattle.parse_jump.proofs.Loops.{ended, stopped, goes_on, where_over, where_stops, where_fails, where_more}
use Rattle.parse_stmt.specs.Views.{part_of, view_parts, try_part_at, handlers_at}
use Rattle.parse_stmt.proofs.Handling.{parts_list, one_part, pushed, begins_behind, no_first}
use Rattle.parse_stmt.proofs.attempt.handlers.Goals as goal

pub returns-in_err-first : goal.returns-in_err-first
returns-in_err-first g c =
    let p = err_from_is_err_and c.from_residual.result c.from_residual.ensures.1 in
    let d = c.args.depth in
    let start = c.args.cursor.now in
    rw (p.1, p.2) (passes part_of height.try_parts_height d (try_part_at d start) view_parts height.try_parts_height d (handlers_at d start) c.in_err-first.field-0.0 c.try_part.new.cursor
    (λ end e. no_first (parts_list d) d (handlers_at d start) (try_part_at d) (many_where (try_part_comes (type_reader d)) (try_part_at d)) start end refl e) c.in_err-first.ensures)

pub loop-turn-init : goal.loop-turn-init
loop-turn-init g c =
    let r = c.in_ok-first.ensures in
    let d = c.args.depth in
    let start = c.args.cursor.now in
    let mid = c.try_part.new.cursor in
    let first = part_of c.in_ok-first.first in
    let is = ap try_parts_of (rw c.new-found.ensures.items at c.in_ok-push.ensures.items) in
    let all : c.left-turn-end.result - 0 ≡ length mid = omega (arith, c.left-turn-end.ensures) in
    begins_behind (parts_list d) d (handlers_at d start) (try_part_at d) (many_where (try_part_comes (type_reader d)) (try_part_at d)) first start mid (view_parts c.push.new.self) c.in_ok-first.height _ refl r.0
    (ap (λ (k : ℕ). many_where_turns (try_part_comes (type_reader d)) (try_part_at d) k mid) all) (is ∙ sym (one_part first)) (r.1 ∙ ap height.try_parts_height (sym is)) r.2

pub returns-then-not-comes : goal.returns-then-not-comes
returns-then-not-comes g c =
    let i = c.loop-turn.invariant in
    let d = c.args.depth in (
      ended (parts_list d) d (handlers_at d c.args.cursor.now) (view_parts c.loop-turn.found) c.loop-turn.highest _ c.loop-turn.cursor i
          (where_stops (try_part_comes (type_reader d)) (try_part_at d) c.left-turn-end.result c.loop-turn._turn c.loop-turn.cursor c.loop-turn-test.true (sym c.in_ok-comes.ensures ∙ c.if-not-comes.true)),
      i.high,
      i.low,
    )

pub returns-in_err-further : goal.returns-in_err-further
returns-in_err-further g c =
    let p = err_from_is_err_and c.from_residual-in_err-further.result c.from_residual-in_err-further.ensures.1 in
    let d = c.args.depth in
    let start = c.args.cursor.now in
    rw (p.1, p.2) (passes part_of height.try_parts_height d (try_part_at d c.loop-turn.cursor) view_parts height.try_parts_height d (handlers_at d start) c.in_err-further.field-0.0 c.try_part-in-loop-turn.new.cursor
    (λ end e. stopped (parts_list d) d (handlers_at d start) (view_parts c.loop-turn.found) c.loop-turn.highest _ end c.loop-turn.invariant
    (where_fails (try_part_comes (type_reader d)) (try_part_at d) c.left-turn-end.result c.loop-turn._turn c.loop-turn.cursor end c.loop-turn-test.true (sym c.in_ok-comes.ensures ∙ c.if-not-comes.false) e)) c.in_err-further.ensures)

pub loop-turn-preserved : goal.loop-turn-preserved
loop-turn-preserved g c =
    let r = c.in_ok-further.ensures in
    let d = c.args.depth in
    goes_on (parts_list d) d (handlers_at d c.args.cursor.now) (view_parts c.loop-turn.found) _ c.loop-turn.highest _ _ _ (part_of c.in_ok-further.further) c.loop-turn.invariant
    (where_more (try_part_comes (type_reader d)) (try_part_at d) c.left-turn-end.result c.loop-turn._turn c.loop-turn.cursor c.try_part-in-loop-turn.new.cursor (part_of c.in_ok-further.further) c.loop-turn-test.true (sym c.in_ok-comes.ensures ∙ c.if-not-comes.false) r.0)
    (pushed c.loop-turn.found.items _ c.in_ok-further.further c.in_ok-push-2.ensures.items) (omega (arith, c.max-highest.ensures, r.1)) (omega (arith, r.1, r.2))

pub returns : goal.returns
returns g c =
    let i = c.loop-turn.invariant in
    let d = c.args.depth in (
      ended (parts_list d) d (handlers_at d c.args.cursor.now) (view_parts c.loop-turn.found) c.loop-turn.highest _ c.loop-turn.cursor i
          (where_over (try_part_comes (type_reader d)) (try_part_at d) c.left-turn-end.result c.loop-turn._turn c.loop-turn.cursor (omega (arith, c.loop-turn-test.false))),
      i.high,
      i.low,
    )
