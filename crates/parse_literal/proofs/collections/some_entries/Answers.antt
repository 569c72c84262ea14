use Rattle.std.proofs.Common.{◌-◌, ◌∙◌, Some, refl, sym, ap, arith}
use Rattle.std.proofs.lemmas.Result.{err_from_is_err_and}
use Rattle.dart_token.specs.declared.sign.Sign.TheVariants as s
use Rattle.dart_tree.specs.Depth as height
use Rattle.dart_tree.specs.Lists.{entries_of}
use Rattle.token_codes.specs.Leaves.{sign}
use Rattle.token_cursor.specs.Gives.{same}
use Rattle.token_cursor.proofs.Passing.{passes}
use Rattle.parse_loop.proofs.Trailing.{trail_no_first, trail_begins_behind, trail_stops, trail_over, trail_fails, trail_item_fails, trail_last, trail_goes_on}
use Rattle.parse_nest.specs.Stages.{closed_at}
use Rattle.syntax_readers.specs.Primaries.{expr_first, entry}
use Rattle.parse_literal.specs.Views.{entries_and_comma, entries_and_comma_height, some_entries, entry_of, entry_height}
use Rattle.parse_literal.proofs.Passed.{passes_on}
use Rattle.parse_literal.proofs.Listings.{entries_list, one_entry_height, entries_pushed}
use Rattle.parse_literal.proofs.collections.some_entries.Goals as goal

pub returns-in_err-key : goal.returns-in_err-key
returns-in_err-key g c =
    let p = err_from_is_err_and c.from_residual.result c.from_residual.ensures.1 in
    let d = c.args.depth in
    rw (p.1, p.2) (passes entry_of entry_height d (entry (closed_at d) c.args.cursor.now) entries_and_comma entries_and_comma_height d (some_entries (closed_at d) c.args.cursor.now) c.in_err-key.field-0.0 c.entry.new.cursor
    (λ end e. trail_no_first (entries_list (closed_at d)) expr_first (sign s.Comma) (entry (closed_at d)) d (some_entries (closed_at d) c.args.cursor.now) (entry (closed_at d)) c.args.cursor.now end refl e) c.in_err-key.ensures)

pub loop-turn-init : goal.loop-turn-init
loop-turn-init g c =
    let r = c.in_ok-key.ensures in
    let d = c.args.depth in
    let is = ap entries_of (rw c.new-found.ensures.items at c.in_ok-push.ensures.items) in
    let h = ap height.entries_height is in
    trail_begins_behind (entries_list (closed_at d)) expr_first (sign s.Comma) (entry (closed_at d)) d (some_entries (closed_at d) c.args.cursor.now) (entry (closed_at d)) (entry_of (c.in_ok-key.key, (c.in_ok-key.colon, c.in_ok-key.value))) c.args.cursor.now c.entry.new.cursor (entries_of c.push.new.self.items) c.in_ok-key.first (c.left-turn-end.result - 0) refl r.0 is
    (omega (arith, h, r.1, one_entry_height (entry_of (c.in_ok-key.key, (c.in_ok-key.colon, c.in_ok-key.value))))) r.2 (omega (arith, c.left-turn-end.ensures))

pub returns-then-not-sees : goal.returns-then-not-sees
returns-then-not-sees g c =
    let i = c.loop-turn.invariant in
    let d = c.args.depth in
    (trail_stops (entries_list (closed_at d)) expr_first (sign s.Comma) (entry (closed_at d)) d (some_entries (closed_at d) c.args.cursor.now) (entries_of c.loop-turn.found.items) c.loop-turn.highest c.left-turn-end.result c.loop-turn._turn c.loop-turn.cursor i c.loop-turn-test.true (sym c.if-not-sees.ensures), i.high, i.low)

pub returns-in_err-comma : goal.returns-in_err-comma
returns-in_err-comma g c =
    let p = err_from_is_err_and c.from_residual-in_err-comma.result c.from_residual-in_err-comma.ensures.1 in
    let d = c.args.depth in
    rw (p.1, p.2) (passes_on same (sign s.Comma c.loop-turn.cursor) entries_and_comma entries_and_comma_height d (some_entries (closed_at d) c.args.cursor.now) c.in_err-comma.field-0.0 c.expect.new.self
    (λ end e. trail_fails (entries_list (closed_at d)) expr_first (sign s.Comma) (entry (closed_at d)) d (some_entries (closed_at d) c.args.cursor.now) (entries_of c.loop-turn.found.items) c.loop-turn.highest c.left-turn-end.result c.loop-turn._turn c.loop-turn.cursor end c.loop-turn.invariant c.loop-turn-test.true (sym c.if-not-sees.ensures) e) c.in_err-comma.ensures)

pub returns-then-not-sees_expr : goal.returns-then-not-sees_expr
returns-then-not-sees_expr g c =
    let i = c.loop-turn.invariant in
    let d = c.args.depth in
    (trail_last (entries_list (closed_at d)) expr_first (sign s.Comma) (entry (closed_at d)) d (some_entries (closed_at d) c.args.cursor.now) (entries_of c.loop-turn.found.items) c.loop-turn.highest c.left-turn-end.result c.loop-turn._turn c.loop-turn.cursor c.expect.new.self c.in_ok-comma.comma i c.loop-turn-test.true (sym c.if-not-sees.ensures) c.in_ok-comma.ensures (sym c.if-not-sees_expr.ensures), i.high, i.low)

pub returns-in_err-key-2 : goal.returns-in_err-key-2
returns-in_err-key-2 g c =
    let p = err_from_is_err_and c.from_residual-in_err-key-2.result c.from_residual-in_err-key-2.ensures.1 in
    let d = c.args.depth in
    rw (p.1, p.2) (passes entry_of entry_height d (entry (closed_at d) c.expect.new.self) entries_and_comma entries_and_comma_height d (some_entries (closed_at d) c.args.cursor.now) c.in_err-key-2.field-0.0 c.entry-in-loop-turn.new.cursor
    (λ end e. trail_item_fails (entries_list (closed_at d)) expr_first (sign s.Comma) (entry (closed_at d)) d (some_entries (closed_at d) c.args.cursor.now) (entries_of c.loop-turn.found.items) c.loop-turn.highest c.left-turn-end.result c.loop-turn._turn c.loop-turn.cursor c.expect.new.self end c.in_ok-comma.comma c.loop-turn.invariant c.loop-turn-test.true (sym c.if-not-sees.ensures) c.in_ok-comma.ensures (sym c.if-not-sees_expr.ensures) e) c.in_err-key-2.ensures)

pub loop-turn-preserved : goal.loop-turn-preserved
loop-turn-preserved g c =
    let r = c.in_ok-key-2.ensures in
    let d = c.args.depth in
    trail_goes_on (entries_list (closed_at d)) expr_first (sign s.Comma) (entry (closed_at d)) d (some_entries (closed_at d) c.args.cursor.now) (entries_of c.loop-turn.found.items) _ c.loop-turn.highest _ c.left-turn-end.result c.loop-turn._turn c.loop-turn.cursor c.expect.new.self c.entry-in-loop-turn.new.cursor c.in_ok-comma.comma (entry_of (c.in_ok-key-2.key, (c.in_ok-key-2.colon, c.in_ok-key-2.value))) c.loop-turn.invariant c.loop-turn-test.true (sym c.if-not-sees.ensures) c.in_ok-comma.ensures (sym c.if-not-sees_expr.ensures) r.0
    (ap entries_of c.in_ok-push-2.ensures.items ∙ entries_pushed c.loop-turn.found.items (Some c.in_ok-comma.comma) c.in_ok-key-2.key c.in_ok-key-2.value c.in_ok-key-2.colon) (omega (arith, c.max-highest.ensures, r.1)) (omega (arith, r.1, r.2))

pub returns : goal.returns
returns g c =
    let i = c.loop-turn.invariant in
    let d = c.args.depth in
    (trail_over (entries_list (closed_at d)) expr_first (sign s.Comma) (entry (closed_at d)) d (some_entries (closed_at d) c.args.cursor.now) (entries_of c.loop-turn.found.items) c.loop-turn.highest c.left-turn-end.result c.loop-turn._turn c.loop-turn.cursor i (omega (arith, c.loop-turn-test.false)), i.high, i.low)
