use Rattle.std.proofs.Common.{◌-◌, Some, None, refl, sym, ap, arith}
use Rattle.std.proofs.lemmas.Result.{err_from_is_err_and}
use Rattle.dart_token.specs.declared.sign.Sign.TheVariants as s
use Rattle.dart_tree.specs.Depth as height
use Rattle.dart_tree.specs.Lists.{items_of}
use Rattle.dart_tree.specs.View as view
use Rattle.grammar_laws.specs.Readers.{both}
use Rattle.token_codes.specs.Leaves.{sign}
use Rattle.token_cursor.proofs.Passing.{passes}
use Rattle.parse_literal.specs.Views.{view_items}
use Rattle.parse_literal.proofs.Listings.{items_list, one_item_height, pushed}
use Rattle.parse_loop.proofs.Plain.{no_first, begins_behind, stops, over, fails, goes_on}
use Rattle.parse_nest.specs.Stages.{closed_at}
use Rattle.parse_stmt.specs.Views.{comma_expr_of, comma_expr_height, some_updates}
use Rattle.parse_stmt.proofs.iterate.some_updates.Goals as goal

pub returns-in_err-value : goal.returns-in_err-value
returns-in_err-value g c =
    let p = err_from_is_err_and c.from_residual.result c.from_residual.ensures.1 in
    let d = c.args.depth in
    rw (p.1, p.2) (passes view.expr height.expr_height d (closed_at d c.args.cursor.now) view_items height.items_height d (some_updates (closed_at d) c.args.cursor.now) c.in_err-value.field-0.0 c.expr.new.cursor
    (λ end e. no_first (items_list (closed_at d)) d (some_updates (closed_at d) c.args.cursor.now) (closed_at d) c.args.cursor.now end refl e) c.in_err-value.ensures)

pub loop-turn-init : goal.loop-turn-init
loop-turn-init g c =
    let r = c.in_ok-value.ensures in
    let d = c.args.depth in
    let is = ap items_of (rw c.new-found.ensures.items at c.in_ok-push.ensures.items) in
    let h = ap height.items_height is in
    begins_behind (items_list (closed_at d)) d (some_updates (closed_at d) c.args.cursor.now) (closed_at d) (view.expr c.in_ok-value.value) c.args.cursor.now c.expr.new.cursor (items_of c.push.new.self.items) c.in_ok-value.first (c.left-turn-end.result - 0) refl r.0 is
    (omega (arith, h, r.1, one_item_height (view.expr c.in_ok-value.value))) r.2 (omega (arith, c.left-turn-end.ensures))

pub returns-then-not-sees : goal.returns-then-not-sees
returns-then-not-sees g c =
    let i = c.loop-turn.invariant in
    let d = c.args.depth in
    (stops (items_list (closed_at d)) d (some_updates (closed_at d) c.args.cursor.now) (items_of c.loop-turn.found.items) c.loop-turn.highest c.left-turn-end.result c.loop-turn._turn c.loop-turn.cursor i c.loop-turn-test.true (sym c.if-not-sees.ensures), i.high, i.low)

pub returns-in_err-comma : goal.returns-in_err-comma
returns-in_err-comma g c =
    let p = err_from_is_err_and c.from_residual-in_err-comma.result c.from_residual-in_err-comma.ensures.1 in
    let d = c.args.depth in
    rw (p.1, p.2) (passes comma_expr_of comma_expr_height d (both (sign s.Comma) (closed_at d) c.loop-turn.cursor) view_items height.items_height d (some_updates (closed_at d) c.args.cursor.now) c.in_err-comma.field-0.0 c.comma_expr.new.cursor
    (λ end e. fails (items_list (closed_at d)) d (some_updates (closed_at d) c.args.cursor.now) (items_of c.loop-turn.found.items) c.loop-turn.highest c.left-turn-end.result c.loop-turn._turn c.loop-turn.cursor end c.loop-turn.invariant c.loop-turn-test.true (sym c.if-not-sees.ensures) e) c.in_err-comma.ensures)

pub loop-turn-preserved : goal.loop-turn-preserved
loop-turn-preserved g c =
    let r = c.in_ok-comma.ensures in
    let d = c.args.depth in
    goes_on (items_list (closed_at d)) d (some_updates (closed_at d) c.args.cursor.now) (items_of c.loop-turn.found.items) _ c.loop-turn.highest _ c.left-turn-end.result c.loop-turn._turn c.loop-turn.cursor c.comma_expr.new.cursor (comma_expr_of (c.in_ok-comma.comma, c.in_ok-comma.value)) c.loop-turn.invariant c.loop-turn-test.true (sym c.if-not-sees.ensures) r.0
    (pushed c.loop-turn.found.items _ (Some c.in_ok-comma.comma) None c.in_ok-comma.value c.in_ok-push-2.ensures.items) (omega (arith, c.max-highest.ensures, r.1)) (omega (arith, r.1, r.2))

pub returns : goal.returns
returns g c =
    let i = c.loop-turn.invariant in
    let d = c.args.depth in
    (over (items_list (closed_at d)) d (some_updates (closed_at d) c.args.cursor.now) (items_of c.loop-turn.found.items) c.loop-turn.highest c.left-turn-end.result c.loop-turn._turn c.loop-turn.cursor i (omega (arith, c.loop-turn-test.false)), i.high, i.low)
