use Rattle.std.proofs.Common.{◌≤◌, List, map, length, refl, arith}
use Rattle.std.proofs.lemmas.Result.{err_from_is_err_and}
use Rattle.dart_tree.specs.declared.declaration.Member.{Member}
use Rattle.dart_tree.specs.UnitView as unit_view
use Rattle.translation.specs.Classes as cl
use Rattle.lower_leaf.specs.Seen.{seen}
use Rattle.lower_decl.proofs.Stops.{stops}
use Rattle.lower_class.specs.Views.{class_around, parts}
use Rattle.lower_class.proofs.Walking.{parts_join, no_parts_behind, next_item, step_item, end_items}
use Rattle.lower_class.proofs.member.all_members.Goals as goal

pub loop-one-preserved : goal.loop-one-preserved
loop-one-preserved g c =
    let a = g.S.Surroundings.around c.args.outside.now in
    let ar = class_around a c.args.around.now in
    let ms = map unit_view.member c.args.members.now.items in
    step_item cl.with_parts parts_join (λ (l : List Member) st. cl.all_members ar ms (map unit_view.member l) st)
    (λ (x : Member) (xs : List Member) st. cl.member ar ms x.modifier (unit_view.member_kind x.kind) st) (λ x xs st. refl)
    c.args.members.now.items c.deref-one-items.result.now c.loop-one.one-index c.one-item.result (parts a c.loop-one.found) (parts a c.in_ok-more.more)
    (parts a c.add_parts.new.found) (seen a c.loop-one.state) _ _ c.deref-one-items.ensures.value c.loop-one-test.true c.one-item.is c.loop-one.invariant c.in_ok-more.ensures c.in_ok-add_parts.ensures

pub returns-in_err-more : goal.returns-in_err-more
returns-in_err-more g c =
    let a = g.S.Surroundings.around c.args.outside.now in
    let ar = class_around a c.args.around.now in
    let ms = map unit_view.member c.args.members.now.items in
    let p = err_from_is_err_and c.from_residual.result c.from_residual.ensures.1 in
    rw (p.1, p.2) (stops (parts a) (parts a) c.in_err-more.field-0.0 _ _ _ _ _ (next_item cl.with_parts parts_join (λ (l : List Member) st. cl.all_members ar ms (map unit_view.member l) st)
    (λ (x : Member) (xs : List Member) st. cl.member ar ms x.modifier (unit_view.member_kind x.kind) st) (λ x xs st. refl)
    c.args.members.now.items c.deref-one-items.result.now c.loop-one.one-index c.one-item.result (parts a c.loop-one.found) (seen a c.loop-one.state) _
    c.deref-one-items.ensures.value c.loop-one-test.true c.one-item.is c.loop-one.invariant) c.in_err-more.ensures)

pub returns : goal.returns
returns g c =
    let a = g.S.Surroundings.around c.args.outside.now in
    let ar = class_around a c.args.around.now in
    let ms = map unit_view.member c.args.members.now.items in
    let past : length c.deref-one-items.result.now ≤ c.loop-one.one-index = omega arith in
    end_items cl.with_parts cl.no_parts no_parts_behind (λ (l : List Member) st. cl.all_members ar ms (map unit_view.member l) st) (λ st. refl)
    c.args.members.now.items c.deref-one-items.result.now c.loop-one.one-index (parts a c.loop-one.found) (seen a c.loop-one.state) _ c.deref-one-items.ensures.value past c.loop-one.invariant
