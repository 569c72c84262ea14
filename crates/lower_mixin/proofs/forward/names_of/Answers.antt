use Rattle.std.proofs.Common.{◌≤◌, length, refl, arith}
use Rattle.core_program.specs.Program as p
use Rattle.translation.specs.Applications as apps
use Rattle.translation.specs.Surroundings.{Text}
use Rattle.lower_leaf.specs.Around.{text}
use Rattle.lower_mixin.proofs.Picked.{picked_step, picked_end}
use Rattle.lower_mixin.proofs.forward.names_of.Goals as goal

pub loop-one-preserved : goal.loop-one-preserved
loop-one-preserved g c =
    let a = g.S.Surroundings.around c.args.outside.now in
    picked_step a (text a) (λ (q : p.Parameter Text). q.name) apps.is_named c.args.all.now.items c.deref-one-items.result.now c.loop-one.one-index _
    c.loop-one.made.items c.push_if.new.list.items _ c.is_named.result c.deref-one-items.ensures.value c.loop-one-test.true
    c.is_named.ensures c.in_ok-push_if.ensures refl c.loop-one.invariant

pub returns : goal.returns
returns g c =
    let a = g.S.Surroundings.around c.args.outside.now in
    let past : length c.deref-one-items.result.now ≤ c.loop-one.one-index = omega arith in
    picked_end a (text a) (λ (q : p.Parameter Text). q.name) apps.is_named c.args.all.now.items c.deref-one-items.result.now c.loop-one.one-index
    c.loop-one.made.items c.deref-one-items.ensures.value past c.loop-one.invariant
