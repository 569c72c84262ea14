use Rattle.std.proofs.Common.{◌-◌, map, sym, ap, arith}
use Rattle.std.proofs.lemmas.Result.{err_from_is_err_and}
use Rattle.dart_tree.specs.Depth as height
use Rattle.dart_tree.specs.UnitView as view
use Rattle.token_cursor.proofs.Passing.{passes}
use Rattle.syntax_readers.specs.Declarations as spec
use Rattle.parse_loop.proofs.Plain.{begins, stops, over, fails, goes_on}
use Rattle.parse_loop.proofs.Alike.{pushed, same_shape}
use Rattle.parse_class.specs.Views.{members_of, members_at, members_height}
use Rattle.parse_class.proofs.Listing.{member_list}
use Rattle.parse_class.proofs.member.members.Goals as goal

pub loop-turn-init : goal.loop-turn-init
loop-turn-init g c =
    let d = c.args.depth in
    let n = c.args.class.now in
    let start = c.args.cursor.now in
    let none = ap (map view.member) c.new-found.ensures.items in
    begins (member_list d n) d (members_at d n start) tt start (members_of c.new-found.result) 0 (c.left-turn-end.result - 0)
    (same_shape (members_at d n) start) none (ap members_height (sym none)) (omega arith) (omega (arith, c.left-turn-end.ensures))

pub returns-then-not-sees_member : goal.returns-then-not-sees_member
returns-then-not-sees_member g c =
    let i = c.loop-turn.invariant in
    let d = c.args.depth in
    let n = c.args.class.now in (
      stops (member_list d n) d (members_at d n c.args.cursor.now) (members_of c.loop-turn.found) c.loop-turn.highest c.left-turn-end.result
          c.loop-turn._turn c.loop-turn.cursor i c.loop-turn-test.true (sym c.if-not-sees_member.ensures),
      i.high,
      i.low,
    )

pub returns-in_err-further : goal.returns-in_err-further
returns-in_err-further g c =
    let q = err_from_is_err_and c.from_residual.result c.from_residual.ensures.1 in
    let d = c.args.depth in
    let n = c.args.class.now in
    let start = c.args.cursor.now in
    rw (q.1, q.2) (passes view.member height.member_height d (spec.member d n c.loop-turn.cursor) members_of members_height d
    (members_at d n start) c.in_err-further.field-0.0 c.member.new.cursor
    (λ end e. fails (member_list d n) d (members_at d n start) (members_of c.loop-turn.found) c.loop-turn.highest c.left-turn-end.result
    c.loop-turn._turn c.loop-turn.cursor end c.loop-turn.invariant c.loop-turn-test.true (sym c.if-not-sees_member.ensures) e)
    c.in_err-further.ensures)

pub loop-turn-preserved : goal.loop-turn-preserved
loop-turn-preserved g c =
    let r = c.in_ok-further.ensures in
    let d = c.args.depth in
    let n = c.args.class.now in
    goes_on (member_list d n) d (members_at d n c.args.cursor.now) (members_of c.loop-turn.found) _ c.loop-turn.highest _
    c.left-turn-end.result c.loop-turn._turn c.loop-turn.cursor c.member.new.cursor (view.member c.in_ok-further.further)
    c.loop-turn.invariant c.loop-turn-test.true (sym c.if-not-sees_member.ensures) r.0
    (pushed view.member c.loop-turn.found.items _ c.in_ok-further.further c.in_ok-push.ensures.items)
    (omega (arith, c.max-highest.ensures, r.1)) (omega (arith, r.1, r.2))

pub returns : goal.returns
returns g c =
    let i = c.loop-turn.invariant in
    let d = c.args.depth in
    let n = c.args.class.now in (
      over (member_list d n) d (members_at d n c.args.cursor.now) (members_of c.loop-turn.found) c.loop-turn.highest c.left-turn-end.result
          c.loop-turn._turn c.loop-turn.cursor i (omega (arith, c.loop-turn-test.false)),
      i.high,
      i.low,
    )
