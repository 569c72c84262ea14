use Rattle.std.proofs.Common.{ap, ◌∙◌}
use Rattle.evaluation.specs.State.{ends}
use Rattle.machine_frame.specs.Frames.{seen, value_or_full}
use Rattle.machine_loop.proofs.Partly.{each, where_ok, left_done, left_left, let_left}
use Rattle.machine_loop.proofs.Ordered.{below_same}
use Rattle.machine_loop.proofs.statements.bound_or_left.Goals as goal

pub returns-in-Some-2 : goal.returns-in-Some-2
returns-in-Some-2 c =
    let a = c.args.a in
    let core = c.args.core.now in
    let old = c.args.run.now in
    let middle = c.declare.new.run in
    let new = c.pair_or_left.new.run in
    let made = c.in_ok-declare-in-Some in
    let body = c.deref-in-Some-2.result in
    let some = let_left a core old middle c.in-Some.left c.in-Let.var c.in-Let.value c.in-Let.body c.deref.result.now body c.in-Some.found c.in-Some-2.field-0 c.if-run-eq0.false
    c.in-Let.is c.deref.ensures c.deref-in-Some-2.ensures c.in-Some.ensures.value (made.ensures.declared ∙ ap (λ h. ends (value_or_full h) (seen middle)) c.in-Some-2.is)
    (below_same (record old { left = c.in-Some.left }) middle made.ensures.beside) made.ensures.beside c.in-Some.ensures.less in
    where_ok c.pair_or_left.result
    (λ o. each o (left_done a core body.now old middle new some) (λ more. left_left a core body.now more.now old middle new some))
    c.pair_or_left.ensures
