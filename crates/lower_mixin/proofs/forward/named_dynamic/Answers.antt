use Rattle.std.proofs.Common.{◌∙◌, ◌≤◌, map, length, ap, arith}
use Rattle.translation.specs.Applications as apps
use Rattle.lower_leaf.specs.Kept.{named_type, in_order}
use Rattle.lower_function.specs.Made.{parameter}
use Rattle.lower_mixin.proofs.Named.{with_dynamic, named_listed}
use Rattle.lower_mixin.proofs.Picked.{picked_step, picked_end}
use Rattle.lower_mixin.proofs.forward.named_dynamic.Goals as goal

pub loop-one-preserved : goal.loop-one-preserved
loop-one-preserved g c =
    let a = g.S.Surroundings.around c.args.outside.now in
    picked_step a (named_type a) with_dynamic apps.is_named c.args.all.now.items c.deref-one-items.result.now c.loop-one.one-index _
    c.loop-one.made.items c.push_if.new.list.items c.dynamic_one.result c.is_named.result c.deref-one-items.ensures.value c.loop-one-test.true
    c.is_named.ensures c.in_ok-push_if.ensures c.dynamic_one.ensures c.loop-one.invariant

pub returns : goal.returns
returns g c =
    let a = g.S.Surroundings.around c.args.outside.now in
    let past : length c.deref-one-items.result.now ≤ c.loop-one.one-index = omega arith in
    ap in_order (picked_end a (named_type a) with_dynamic apps.is_named c.args.all.now.items c.deref-one-items.result.now c.loop-one.one-index
    c.loop-one.made.items c.deref-one-items.ensures.value past c.loop-one.invariant)
    ∙ named_listed (apps.of_shape apps.is_named (map (parameter a) c.args.all.now.items))
