use Rattle.std.proofs.Common.{◌≤◌, length, refl, arith}
use Rattle.dart_tree.specs.declared.declaration.TypeParameter.{TypeParameter}
use Rattle.dart_tree.specs.UnitView as unit_view
use Rattle.lower_leaf.specs.Seen.{seen}
use Rattle.class_source.specs.Headers as h
use Rattle.class_source.specs.View as shown
use Rattle.class_reader.specs.Seen.{bounds_of}
use Rattle.class_reader.proofs.Items.{pushed, finish}
use Rattle.class_reader.proofs.header.bounds_of.Goals as goal

pub loop-one-preserved : goal.loop-one-preserved
loop-one-preserved g c =
    let a = g.S.Surroundings.around c.args.outside.now in
    let st = seen a c.args.state.now in
    pushed (shown.bound a.texts) (bounds_of st) (λ (x : TypeParameter). h.bound st (unit_view.maybe unit_view.bound x.bound)) (λ x xs. refl)
    c.args.all.now.items c.deref-one-items.result.now c.loop-one.one-index c.one-item.result c.loop-one.made.items c.push.new.self.items c.in_ok-of.of _
    c.deref-one-items.ensures.value c.loop-one-test.true c.one-item.is c.in_ok-push.ensures.items c.in_ok-of.ensures c.loop-one.invariant

pub returns : goal.returns
returns g c =
    let a = g.S.Surroundings.around c.args.outside.now in
    let st = seen a c.args.state.now in
    let past : length c.deref-one-items.result.now ≤ c.loop-one.one-index = omega arith in
    finish (shown.bound a.texts) (bounds_of st) refl
    c.args.all.now.items c.deref-one-items.result.now c.loop-one.one-index c.loop-one.made.items _ c.deref-one-items.ensures.value past c.loop-one.invariant
