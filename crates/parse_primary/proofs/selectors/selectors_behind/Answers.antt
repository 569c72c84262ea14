use Rattle.std.proofs.Common.{◌-◌, ◌∙◌, sym, refl, ap, arith, map}
use Rattle.std.proofs.lemmas.Result.{err_from_is_err_and}
use Rattle.dart_tree.specs.Depth as height
use Rattle.dart_tree.specs.View as view
use Rattle.token_cursor.proofs.Passing.{passes}
use Rattle.syntax_readers.specs.Primaries.{selector}
use Rattle.parse_loop.proofs.Plain.{begins, stops, over, fails, goes_on}
use Rattle.parse_primary.specs.Views.{view_selectors, selectors_high, selectors_behind}
use Rattle.parse_primary.proofs.Selecting.{selectors_list, one_selector_height, selectors_pushed}
use Rattle.parse_primary.proofs.selectors.selectors_behind.Goals as goal
use Rattle.parse_nest.specs.Stages.{exprs_at}

pub loop-turn-init : goal.loop-turn-init
loop-turn-init g c =
    let d = c.args.depth in
    let is = ap (map view.selector) (rw c.new-found.ensures.items at c.in_ok-push.ensures.items) in
    let h = ap selectors_high is in
    begins (selectors_list (exprs_at d)) d (selectors_behind d (view.selector c.args.first) c.args.cursor.now) (view.selector c.args.first) c.args.cursor.now (map view.selector c.push.new.self.items) c.args.tall (c.left-turn-end.result - 0) refl is
    (omega (arith, h, c.requires.high, one_selector_height (view.selector c.args.first))) c.requires.low (omega (arith, c.left-turn-end.ensures))

pub returns-then-not-sees_selector : goal.returns-then-not-sees_selector
returns-then-not-sees_selector g c =
    let i = c.loop-turn.invariant in
    let d = c.args.depth in
    (stops (selectors_list (exprs_at d)) d (selectors_behind d (view.selector c.args.first) c.args.cursor.now) (map view.selector c.loop-turn.found.items) c.loop-turn.highest c.left-turn-end.result c.loop-turn._turn c.loop-turn.cursor i c.loop-turn-test.true (sym c.if-not-sees_selector.ensures), i.high, i.low)

pub returns-in_err-selector : goal.returns-in_err-selector
returns-in_err-selector g c =
    let p = err_from_is_err_and c.from_residual-in_err-selector.result c.from_residual-in_err-selector.ensures.1 in
    let d = c.args.depth in
    rw (p.1, p.2) (passes view.selector height.selector_height d (selector (exprs_at d) c.loop-turn.cursor) view_selectors selectors_high d (selectors_behind d (view.selector c.args.first) c.args.cursor.now) c.in_err-selector.field-0.0 c.selector.new.cursor
    (λ end e. fails (selectors_list (exprs_at d)) d (selectors_behind d (view.selector c.args.first) c.args.cursor.now) (map view.selector c.loop-turn.found.items) c.loop-turn.highest c.left-turn-end.result c.loop-turn._turn c.loop-turn.cursor end c.loop-turn.invariant c.loop-turn-test.true (sym c.if-not-sees_selector.ensures) e) c.in_err-selector.ensures)

pub loop-turn-preserved : goal.loop-turn-preserved
loop-turn-preserved g c =
    let r = c.in_ok-selector.ensures in
    let d = c.args.depth in
    goes_on (selectors_list (exprs_at d)) d (selectors_behind d (view.selector c.args.first) c.args.cursor.now) (map view.selector c.loop-turn.found.items) _ c.loop-turn.highest _ c.left-turn-end.result c.loop-turn._turn c.loop-turn.cursor c.selector.new.cursor (view.selector c.in_ok-selector.selector) c.loop-turn.invariant c.loop-turn-test.true (sym c.if-not-sees_selector.ensures) r.0
    (ap (map view.selector) c.in_ok-push-2.ensures.items ∙ selectors_pushed c.loop-turn.found.items c.in_ok-selector.selector) (omega (arith, c.max-highest.ensures, r.1)) (omega (arith, r.1, r.2))

pub returns : goal.returns
returns g c =
    let i = c.loop-turn.invariant in
    let d = c.args.depth in
    (over (selectors_list (exprs_at d)) d (selectors_behind d (view.selector c.args.first) c.args.cursor.now) (map view.selector c.loop-turn.found.items) c.loop-turn.highest c.left-turn-end.result c.loop-turn._turn c.loop-turn.cursor i (omega (arith, c.loop-turn-test.false)), i.high, i.low)
