use Rattle.std.proofs.Common.{◌≤◌, length, ap, arith}
use Rattle.dart_ir.specs.Ty.{dynamic}
use Rattle.dart_ir.specs.declared.types.TypeRef as k
use Rattle.core_program.specs.Program as p
use Rattle.translation.specs.Applications as apps
use Rattle.translation.specs.Surroundings.{Text, Ty}
use Rattle.translation.specs.Types.{tys}
use Rattle.lower_leaf.specs.Around.{ty}
use Rattle.lower_body.proofs.Typed.{dynamic_seen}
use Rattle.lower_mixin.proofs.Picked.{picked_step, picked_end}
use Rattle.lower_mixin.proofs.forward.optional_types.Goals as goal

pub loop-one-preserved : goal.loop-one-preserved
loop-one-preserved g c =
    let a = g.S.Surroundings.around c.args.outside.now in
    picked_step a (ty a) (λ (q : p.Parameter Text). dynamic) apps.is_optional c.args.all.now.items c.deref-one-items.result.now c.loop-one.one-index _
    c.loop-one.made.items c.push_if.new.list.items k.Dynamic c.is_optional.result c.deref-one-items.ensures.value c.loop-one-test.true
    c.is_optional.ensures c.in_ok-push_if.ensures (dynamic_seen a) c.loop-one.invariant

pub returns : goal.returns
returns g c =
    let a = g.S.Surroundings.around c.args.outside.now in
    let past : length c.deref-one-items.result.now ≤ c.loop-one.one-index = omega arith in
    ap tys (picked_end a (ty a) (λ (q : p.Parameter Text). dynamic) apps.is_optional c.args.all.now.items c.deref-one-items.result.now c.loop-one.one-index
    c.loop-one.made.items c.deref-one-items.ensures.value past c.loop-one.invariant)
