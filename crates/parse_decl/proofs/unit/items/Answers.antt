use Rattle.std.proofs.Common.{◌-◌, refl, sym, arith}
use Rattle.std.proofs.lemmas.Result.{err_from_is_err_and}
use Rattle.dart_tree.specs.UnitView as view
use Rattle.parse_decl.specs.Views.{item_height, item_of, items_at, items_height, still_of}
use Rattle.parse_decl.proofs.Items.{begins, fails, goes_on, over, stops}
use Rattle.parse_decl.proofs.unit.items.Goals as goal
use Rattle.syntax_readers.specs.Units as spec
use Rattle.token_cursor.proofs.Passing.{passes}

pub loop-turn-init : goal.loop-turn-init
loop-turn-init g c =
    begins c.args.depth c.args.cursor.now (view.unit c.no_items-found.result) spec.all_directives (c.left-turn-end.result - 0) c.no_items-found.ensures refl (omega (arith, c.left-turn-end.ensures))

pub returns-then-not-sees_item : goal.returns-then-not-sees_item
returns-then-not-sees_item g c =
    let i = c.loop-turn.invariant in
    let d = c.args.depth in
    (stops d (items_at d c.args.cursor.now) (view.unit c.loop-turn.found) (still_of c.loop-turn.still) c.loop-turn.highest c.left-turn-end.result c.loop-turn._turn c.loop-turn.cursor i c.loop-turn-test.true (sym c.if-not-sees_item.ensures), i.high, i.low)

pub returns-in_err-next : goal.returns-in_err-next
returns-in_err-next g c =
    let p = err_from_is_err_and c.from_residual.result c.from_residual.ensures.1 in
    let d = c.args.depth in
    let still = still_of c.loop-turn.still in
    rw (p.1, p.2) (passes item_of item_height d (spec.item d still c.loop-turn.cursor) view.unit items_height d (items_at d c.args.cursor.now) c.in_err-next.field-0.0 c.item.new.cursor
    (λ end e. fails d (items_at d c.args.cursor.now) (view.unit c.loop-turn.found) still c.loop-turn.highest c.left-turn-end.result c.loop-turn._turn c.loop-turn.cursor end c.loop-turn.invariant c.loop-turn-test.true (sym c.if-not-sees_item.ensures) e) c.in_err-next.ensures)

pub loop-turn-preserved : goal.loop-turn-preserved
loop-turn-preserved g c =
    let r = c.in_ok-next.ensures in
    let d = c.args.depth in
    goes_on d (items_at d c.args.cursor.now) (view.unit c.loop-turn.found) (view.unit c.add.new.unit) (still_of c.loop-turn.still) (still_of c.behind_item-still.result) c.loop-turn.highest c.max-highest.result c.left-turn-end.result c.loop-turn._turn c.loop-turn.cursor c.item.new.cursor (item_of c.in_ok-next.next) c.loop-turn.invariant c.loop-turn-test.true (sym c.if-not-sees_item.ensures) r.0
    c.in_ok-add.ensures c.behind_item-still.ensures (omega (arith, c.max-highest.ensures, r.1)) (omega (arith, r.1, r.2))

pub returns : goal.returns
returns g c =
    let i = c.loop-turn.invariant in
    let d = c.args.depth in
    (over d (items_at d c.args.cursor.now) (view.unit c.loop-turn.found) (still_of c.loop-turn.still) c.loop-turn.highest c.left-turn-end.result c.loop-turn._turn c.loop-turn.cursor i (omega (arith, c.loop-turn-test.false)), i.high, i.low)
