use Rattle.std.proofs.Common.{◌≤◌, ap, length, arith}
use Rattle.translation.specs.Walk as w
use Rattle.lower_leaf.specs.Seen.{seen}
use Rattle.lower_function.proofs.Listed.{here, formals_step, formals_end}
use Rattle.lower_function.proofs.parameter.formal_list.Goals as goal

pub loop-one-preserved : goal.loop-one-preserved
loop-one-preserved g c =
    let a = g.S.Surroundings.around c.args.outside.now in
    let st = seen a c.args.state.now in
    formals_step a st c.args.all.now.items c.deref-one-items.result.now c.loop-one.one-index c.one-item.result
    c.loop-one.made.items c.push.new.self.items _ c.deref-one-items.ensures.value c.loop-one-test.true c.one-item.is c.in_ok-push.ensures.items
    (ap (λ (q : w.Asked). record (here st c.one-item.result) { asked = q }) c.in_ok-wanted.ensures) c.loop-one.invariant

pub returns : goal.returns
returns g c =
    let a = g.S.Surroundings.around c.args.outside.now in
    let st = seen a c.args.state.now in
    let past : length c.deref-one-items.result.now ≤ c.loop-one.one-index = omega arith in
    formals_end st c.args.all.now.items c.deref-one-items.result.now c.loop-one.one-index _ c.deref-one-items.ensures.value past c.loop-one.invariant
