use Rattle.std.proofs.Common.{◌-◌, ◌∙◌, sym, arith}
use Rattle.std.proofs.lemmas.Result.{err_from_is_err_and}
use Rattle.token_cursor.proofs.Passing.{passes}
use Rattle.parse_expr.specs.Views.{open_cascade, open_cascade_height, open_cascades, open_cascades_height, cascades_reader}
use Rattle.parse_expr.proofs.Cascading.{no_first, only, only_height, longer_height, begins, stops, over, fails, last, goes_on}
use Rattle.parse_expr.proofs.cascade.cascades.Goals as goal
use Rattle.parse_nest.specs.Stages.{exprs_at}

pub returns-in_err-first : goal.returns-in_err-first
returns-in_err-first g c =
    let p = err_from_is_err_and c.from_residual.result c.from_residual.ensures.1 in
    let d = c.args.depth in
    let ts = c.args.cursor.now in
    rw (p.1, p.2) (passes open_cascade open_cascade_height d ((exprs_at d).cascade ts) open_cascades open_cascades_height d (cascades_reader d ts) c.in_err-first.field-0.0 c.cascade.new.cursor
    (λ rest e. no_first d ts rest e) c.in_err-first.ensures)

pub returns-then-not-goes_on : goal.returns-then-not-goes_on
returns-then-not-goes_on g c =
    let r = c.in_ok-first.ensures in
    let is = rw c.new-found.ensures.items at c.in_ok-push.ensures.items in (
      only c.args.depth c.args.cursor.now c.in_ok-first.first c.in_ok-first.half c.push.new.self.items c.cascade.new.cursor r.0 (sym c.leaves_another-goes_on.ensures ∙ c.if-not-goes_on.true) is,
      only_height c.push.new.self.items c.in_ok-first.first c.in_ok-first.height is r.1,
      r.2,
    )

pub loop-turn-init : goal.loop-turn-init
loop-turn-init g c =
    let r = c.in_ok-first.ensures in
    let is = rw c.new-found.ensures.items at c.in_ok-push.ensures.items in
    begins c.args.depth c.args.cursor.now c.in_ok-first.first c.in_ok-first.half c.push.new.self.items c.in_ok-first.height (c.left-turn-end.result - 0) c.cascade.new.cursor r.0 (sym c.leaves_another-goes_on.ensures ∙ c.if-not-goes_on.false) is r.1 r.2 (omega (arith, c.left-turn-end.ensures))

pub returns-then-not-sees : goal.returns-then-not-sees
returns-then-not-sees g c =
    let i = c.loop-turn.invariant in
    (stops c.args.depth c.args.cursor.now c.loop-turn.found.items c.loop-turn.highest c.left-turn-end.result c.loop-turn._turn c.loop-turn.cursor i c.loop-turn-test.true (sym c.if-not-sees.ensures), i.high, i.low)

pub returns-in_err-next : goal.returns-in_err-next
returns-in_err-next g c =
    let p = err_from_is_err_and c.from_residual-in_err-next.result c.from_residual-in_err-next.ensures.1 in
    let d = c.args.depth in
    let ts = c.args.cursor.now in
    rw (p.1, p.2) (passes open_cascade open_cascade_height d ((exprs_at d).cascade c.loop-turn.cursor) open_cascades open_cascades_height d (cascades_reader d ts) c.in_err-next.field-0.0 c.cascade-in-loop-turn.new.cursor
    (λ rest e. fails d ts c.loop-turn.found.items c.loop-turn.highest c.left-turn-end.result c.loop-turn._turn c.loop-turn.cursor rest c.loop-turn.invariant c.loop-turn-test.true (sym c.if-not-sees.ensures) e) c.in_err-next.ensures)

pub returns-then-not-goes_on-2 : goal.returns-then-not-goes_on-2
returns-then-not-goes_on-2 g c =
    let i = c.loop-turn.invariant in
    let r = c.in_ok-next.ensures in (
      last c.args.depth c.args.cursor.now c.loop-turn.found.items c.push-in-loop-turn.new.self.items c.in_ok-next.next c.in_ok-next.half c.loop-turn.highest c.left-turn-end.result c.loop-turn._turn c.loop-turn.cursor c.cascade-in-loop-turn.new.cursor i c.loop-turn-test.true (sym c.if-not-sees.ensures) r.0 (sym c.leaves_another-goes_on-in-loop-turn.ensures ∙ c.if-not-goes_on-2.true) c.in_ok-push-2.ensures.items,
      longer_height c.loop-turn.found.items c.push-in-loop-turn.new.self.items c.in_ok-next.next c.loop-turn.highest c.max-highest.result i.high c.in_ok-push-2.ensures.items (omega (arith, c.max-highest.ensures, r.1)),
      omega (arith, c.max-highest.ensures, r.1, r.2, i.low),
    )

pub loop-turn-preserved : goal.loop-turn-preserved
loop-turn-preserved g c =
    let i = c.loop-turn.invariant in
    let r = c.in_ok-next.ensures in
    goes_on c.args.depth c.args.cursor.now c.loop-turn.found.items c.push-in-loop-turn.new.self.items c.in_ok-next.next c.in_ok-next.half c.loop-turn.highest c.max-highest.result c.left-turn-end.result c.loop-turn._turn c.loop-turn.cursor c.cascade-in-loop-turn.new.cursor i c.loop-turn-test.true (sym c.if-not-sees.ensures) r.0 (sym c.leaves_another-goes_on-in-loop-turn.ensures ∙ c.if-not-goes_on-2.false) c.in_ok-push-2.ensures.items (omega (arith, c.max-highest.ensures, r.1)) (omega (arith, r.1, r.2))

pub returns : goal.returns
returns g c =
    let i = c.loop-turn.invariant in
    (over c.args.depth c.args.cursor.now c.loop-turn.found.items c.loop-turn.highest c.left-turn-end.result c.loop-turn._turn c.loop-turn.cursor i (omega (arith, c.loop-turn-test.false)), i.high, i.low)
