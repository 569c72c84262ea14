use Rattle.std.proofs.Common.{◌≤◌, List, length, refl, arith}
use Rattle.dart_tree.specs.declared.types.TypeArgument.{TypeArgument}
use Rattle.dart_tree.specs.Lists.{type_list_of}
use Rattle.dart_tree.specs.View as view
use Rattle.lower_leaf.specs.Seen.{seen}
use Rattle.class_source.specs.Headers as h
use Rattle.class_source.specs.View as shown
use Rattle.class_reader.proofs.Items.{pushed, finish}
use Rattle.class_reader.proofs.header.types_of.Goals as goal

pub loop-one-preserved : goal.loop-one-preserved
loop-one-preserved g c =
    let a = g.S.Surroundings.around c.args.outside.now in
    let st = seen a c.args.state.now in
    pushed (shown.header_type a.texts) (λ (l : List TypeArgument). h.header_types st (type_list_of l))
    (λ (x : TypeArgument). h.header_type st (view.type_node x.argument)) (λ x xs. refl)
    c.args.all.now.items c.deref-one-items.result.now c.loop-one.one-index c.one-item.result c.loop-one.made.items c.push.new.self.items c.in_ok-of.of _
    c.deref-one-items.ensures.value c.loop-one-test.true c.one-item.is c.in_ok-push.ensures.items c.in_ok-of.ensures c.loop-one.invariant

pub returns : goal.returns
returns g c =
    let a = g.S.Surroundings.around c.args.outside.now in
    let st = seen a c.args.state.now in
    let past : length c.deref-one-items.result.now ≤ c.loop-one.one-index = omega arith in
    finish (shown.header_type a.texts) (λ (l : List TypeArgument). h.header_types st (type_list_of l)) refl
    c.args.all.now.items c.deref-one-items.result.now c.loop-one.one-index c.loop-one.made.items _ c.deref-one-items.ensures.value past c.loop-one.invariant
