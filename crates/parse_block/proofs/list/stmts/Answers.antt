use Rattle.std.proofs.Common.{◌-◌, map, ap, arith}
use Rattle.std.proofs.lemmas.Result.{err_from_is_err_and}
use Rattle.dart_tree.specs.Depth as height
use Rattle.dart_tree.specs.View as view
use Rattle.token_cursor.proofs.Passing.{passes}
use Rattle.parse_loop.proofs.Alike.{pushed}
use Rattle.parse_nest.specs.Stages.{stmt_at}
use Rattle.parse_block.specs.Views.{behind_room, list_of, list_height, stmts_at}
use Rattle.parse_block.proofs.Turns.{stmts_begin, stmts_stop, stmts_over, stmts_fail, stmts_go_on}
use Rattle.parse_block.proofs.list.stmts.Goals as goal

pub loop-turn-init : goal.loop-turn-init
loop-turn-init g c =
    stmts_begin c.args.depth c.args.in_part c.args.cursor.now (list_of c.new-found.result) (c.left-turn-end.result - 0) (ap (map view.stmt) c.new-found.ensures.items) (omega (arith, c.left-turn-end.ensures))

pub returns-then-not-sees_stmt_in : goal.returns-then-not-sees_stmt_in
returns-then-not-sees_stmt_in g c =
    let i = c.loop-turn.invariant in
    (stmts_stop c.args.depth c.args.in_part c.args.cursor.now (list_of c.loop-turn.found) c.loop-turn.highest c.loop-turn.room c.left-turn-end.result c.loop-turn._turn c.loop-turn.cursor i c.loop-turn-test.true c.if-not-sees_stmt_in.ensures, i.read.high, i.read.low)

pub returns-in_err-further : goal.returns-in_err-further
returns-in_err-further g c =
    let p = err_from_is_err_and c.from_residual.result c.from_residual.ensures.1 in
    let d = c.args.depth in
    rw (p.1, p.2) (passes view.stmt height.stmt_height d (behind_room c.loop-turn.room (stmt_at d) c.loop-turn.cursor) list_of list_height d (stmts_at d c.args.in_part c.args.cursor.now) c.in_err-further.field-0.0 c.stmt_behind.new.cursor
    (λ end e. stmts_fail d c.args.in_part c.args.cursor.now (list_of c.loop-turn.found) c.loop-turn.highest c.loop-turn.room c.left-turn-end.result c.loop-turn._turn c.loop-turn.cursor c.loop-turn.invariant end c.loop-turn-test.true c.if-not-sees_stmt_in.ensures e) c.in_err-further.ensures)

pub loop-turn-preserved : goal.loop-turn-preserved
loop-turn-preserved g c =
    let r = c.in_ok-further.ensures in
    stmts_go_on c.args.depth c.args.in_part c.args.cursor.now (list_of c.loop-turn.found) c.loop-turn.highest c.loop-turn.room c.left-turn-end.result c.loop-turn._turn c.loop-turn.cursor c.loop-turn.invariant
    (list_of c.push.new.self) c.max-highest.result c.type_room-room.result c.stmt_behind.new.cursor (view.stmt c.in_ok-further.further) c.loop-turn-test.true c.if-not-sees_stmt_in.ensures r.0 c.type_room-room.ensures
    (pushed view.stmt c.loop-turn.found.items c.push.new.self.items c.in_ok-further.further c.in_ok-push.ensures.items) (omega (arith, c.max-highest.ensures, r.1)) (omega (arith, r.1, r.2))

pub returns : goal.returns
returns g c =
    let i = c.loop-turn.invariant in
    (stmts_over c.args.depth c.args.in_part c.args.cursor.now (list_of c.loop-turn.found) c.loop-turn.highest c.loop-turn.room c.left-turn-end.result c.loop-turn._turn c.loop-turn.cursor i (omega (arith, c.loop-turn-test.false)), i.read.high, i.read.low)
