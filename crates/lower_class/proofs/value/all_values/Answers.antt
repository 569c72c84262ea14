use Rattle.std.proofs.Common.{◌≡◌, ◌≤◌, List, [], ◌++◌, map, length, refl, ap, ◌∙◌, arith}
use Rattle.std.proofs.lemmas.List.{map-append}
use Rattle.std.proofs.lemmas.Result.{err_from_is_err_and}
use Rattle.dart_tree.specs.UnitView as unit_view
use Rattle.dart_tree.specs.declared.declaration.Member.{Member}
use Rattle.translation.specs.Classes as cl
use Rattle.lower_leaf.specs.Forms.{core, cores}
use Rattle.lower_leaf.specs.Seen.{seen}
use Rattle.lower_operand.specs.Made.{all_forms}
use Rattle.lower_decl.proofs.Stops.{stops}
use Rattle.lower_class.specs.Views.{class_around}
use Rattle.lower_class.proofs.Walking.{lists, lists_join, nothing_behind, next_item, step_item, end_items}
use Rattle.lower_class.proofs.value.all_values.Goals as goal

pub loop-one-preserved : goal.loop-one-preserved
loop-one-preserved g c =
    let a = g.S.Surroundings.around c.args.outside.now in
    let joined : cores a c.append.new.self.items ≡ cores a c.loop-one.found.items ++ cores a c.in_ok-forms.forms.items =
    ap (cores a) c.in_ok-append.ensures.items ∙ map-append (core a) c.loop-one.found.items c.in_ok-forms.forms.items in
    step_item lists lists_join (λ (l : List Member) st. cl.all_values (class_around a c.args.around.now) (map unit_view.member l) st)
    (λ (x : Member) (xs : List Member) st. cl.values_of (class_around a c.args.around.now) (cl.is_static x.modifier) (unit_view.member_kind x.kind) st) (λ x xs st. refl)
    c.args.members.now.items c.deref-one-items.result.now c.loop-one.one-index c.one-item.result (cores a c.loop-one.found.items) (cores a c.in_ok-forms.forms.items)
    (cores a c.append.new.self.items) (seen a c.loop-one.state) _ _ c.deref-one-items.ensures.value c.loop-one-test.true c.one-item.is c.loop-one.invariant c.in_ok-forms.ensures joined

pub returns-in_err-forms : goal.returns-in_err-forms
returns-in_err-forms g c =
    let a = g.S.Surroundings.around c.args.outside.now in
    let p = err_from_is_err_and c.from_residual.result c.from_residual.ensures.1 in
    rw (p.1, p.2) (stops (all_forms a) (all_forms a) c.in_err-forms.field-0.0 _ _ _ _ _
    (next_item lists lists_join (λ (l : List Member) st. cl.all_values (class_around a c.args.around.now) (map unit_view.member l) st)
    (λ (x : Member) (xs : List Member) st. cl.values_of (class_around a c.args.around.now) (cl.is_static x.modifier) (unit_view.member_kind x.kind) st) (λ x xs st. refl)
    c.args.members.now.items c.deref-one-items.result.now c.loop-one.one-index c.one-item.result (cores a c.loop-one.found.items) (seen a c.loop-one.state) _
    c.deref-one-items.ensures.value c.loop-one-test.true c.one-item.is c.loop-one.invariant) c.in_err-forms.ensures)

pub returns : goal.returns
returns g c =
    let a = g.S.Surroundings.around c.args.outside.now in
    let past : length c.deref-one-items.result.now ≤ c.loop-one.one-index = omega arith in
    end_items lists [] nothing_behind (λ (l : List Member) st. cl.all_values (class_around a c.args.around.now) (map unit_view.member l) st) (λ st. refl)
    c.args.members.now.items c.deref-one-items.result.now c.loop-one.one-index (cores a c.loop-one.found.items) (seen a c.loop-one.state) _ c.deref-one-items.ensures.value past c.loop-one.invariant
