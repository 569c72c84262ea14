use Rattle.std.proofs.Common.{◌-◌, sym, ap, arith}
use Rattle.std.proofs.lemmas.Result.{err_from_is_err_and}
use Rattle.dart_tree.specs.Depth as height
use Rattle.dart_tree.specs.Lists as lists
use Rattle.dart_tree.specs.View as view
use Rattle.token_cursor.proofs.Passing.{passes}
use Rattle.syntax_readers.specs.Parameters.{metadata}
use Rattle.parse_loop.proofs.Plain.{begins, stops, over, fails, goes_on}
use Rattle.parse_parameter.specs.Views.{metadata_of, annotation_at}
use Rattle.parse_parameter.proofs.Annotations.{annotations, metadata_is, none_high, pushed}
use Rattle.parse_parameter.proofs.metadata.metadata.Goals as goal
use Rattle.parse_nest.specs.Stages.{exprs_at}

pub loop-turn-init : goal.loop-turn-init
loop-turn-init g c =
    let d = c.args.depth in
    let none = ap lists.metadata_of c.new-found.ensures.items in
    begins (annotations d) d (metadata (exprs_at d) c.args.cursor.now) tt c.args.cursor.now (metadata_of c.new-found.result) 0 (c.left-turn-end.result - 0)
    (metadata_is d c.args.cursor.now) none (none_high (metadata_of c.new-found.result) none) (omega arith) (omega (arith, c.left-turn-end.ensures))

pub returns-then-not-sees : goal.returns-then-not-sees
returns-then-not-sees g c =
    let i = c.loop-turn.invariant in
    let d = c.args.depth in
    (stops (annotations d) d (metadata (exprs_at d) c.args.cursor.now) (metadata_of c.loop-turn.found) c.loop-turn.highest c.left-turn-end.result c.loop-turn._turn c.loop-turn.cursor i c.loop-turn-test.true (sym c.if-not-sees.ensures), i.high, i.low)

pub returns-in_err-further : goal.returns-in_err-further
returns-in_err-further g c =
    let p = err_from_is_err_and c.from_residual.result c.from_residual.ensures.1 in
    let d = c.args.depth in
    rw (p.1, p.2) (passes view.annotation height.annotation_height d (annotation_at d c.loop-turn.cursor) metadata_of height.metadata_height d (metadata (exprs_at d) c.args.cursor.now) c.in_err-further.field-0.0 c.annotation.new.cursor
    (λ end e. fails (annotations d) d (metadata (exprs_at d) c.args.cursor.now) (metadata_of c.loop-turn.found) c.loop-turn.highest c.left-turn-end.result c.loop-turn._turn c.loop-turn.cursor end c.loop-turn.invariant c.loop-turn-test.true (sym c.if-not-sees.ensures) e) c.in_err-further.ensures)

pub loop-turn-preserved : goal.loop-turn-preserved
loop-turn-preserved g c =
    let r = c.in_ok-further.ensures in
    let d = c.args.depth in
    goes_on (annotations d) d (metadata (exprs_at d) c.args.cursor.now) (metadata_of c.loop-turn.found) _ c.loop-turn.highest _ c.left-turn-end.result c.loop-turn._turn c.loop-turn.cursor c.annotation.new.cursor (view.annotation c.in_ok-further.further) c.loop-turn.invariant c.loop-turn-test.true (sym c.if-not-sees.ensures) r.0
    (pushed c.loop-turn.found.items _ c.in_ok-further.further c.in_ok-push.ensures.items) (omega (arith, c.max-highest.ensures, r.1)) (omega (arith, r.1, r.2))

pub returns : goal.returns
returns g c =
    let i = c.loop-turn.invariant in
    let d = c.args.depth in
    (over (annotations d) d (metadata (exprs_at d) c.args.cursor.now) (metadata_of c.loop-turn.found) c.loop-turn.highest c.left-turn-end.result c.loop-turn._turn c.loop-turn.cursor i (omega (arith, c.loop-turn-test.false)), i.high, i.low)
