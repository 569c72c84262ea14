use Rattle.std.proofs.Common.{◌≡◌, ◌+◌, ◌≤◌, ◌<◌, ℕ, List, [], ◌++◌, Err, map, length, nat_eq, refl, sym, ap, ◌∙◌, subst, arith}
use Rattle.std.proofs.lemmas.List.{map-append}
use Rattle.std.proofs.lemmas.Result.{err_from_is_err_and}
use Rattle.dart_tree.specs.UnitView as unit_view
use Rattle.dart_tree.specs.declared.declaration.Init.{Init}
use Rattle.translation.specs.Classes as cl
use Rattle.translation.specs.Surroundings.{Core}
use Rattle.translation.specs.Walk as w
use Rattle.lower_leaf.specs.Forms.{core, cores}
use Rattle.lower_leaf.specs.Gives.{Gives}
use Rattle.lower_leaf.specs.Seen.{seen}
use Rattle.lower_operand.specs.Made.{all_forms}
use Rattle.lower_decl.proofs.Stops.{stops}
use Rattle.lower_class.specs.Views.{class_around}
use Rattle.lower_class.proofs.Supers.{initializer_by}
use Rattle.lower_class.proofs.Walking.{lists, lists_join, nothing_behind, next_item, step_item, end_items}
use Rattle.lower_class.proofs.initialise.initializers.Goals as goal

pub loop-i-preserved : goal.loop-i-preserved
loop-i-preserved g c =
    let a = g.S.Surroundings.around c.args.outside.now in
    let joined : cores a c.append.new.self.items ≡ cores a c.loop-i.found.items ++ cores a c.in_ok-forms.forms.items =
    ap (cores a) c.in_ok-append.ensures.items ∙ map-append (core a) c.loop-i.found.items c.in_ok-forms.forms.items in
    let long : c.len.result ≡ length c.args.all.now.items = omega arith in
    let below : c.loop-i.i < length c.args.all.now.items = omega arith in
    step_item lists lists_join (λ (l : List Init) st. cl.initializers (class_around a c.args.around.now) (map unit_view.init l) st)
    (λ (x : Init) (xs : List Init) st. cl.initializer (class_around a c.args.around.now) (map unit_view.init xs) (unit_view.init_kind x.kind) st) (λ x xs st. refl)
    c.args.all.now.items c.deref-one-items.result.now c.loop-i.i c.one-item.result (cores a c.loop-i.found.items) (cores a c.in_ok-forms.forms.items)
    (cores a c.append.new.self.items) (seen a c.loop-i.state) _ _ c.deref-one-items.ensures.value c.loop-i-test.true c.one-item.is c.loop-i.invariant
    (initializer_by (class_around a c.args.around.now) c.args.all.now.items c.loop-i.i (nat_eq (c.loop-i.i + 1) c.len.result) c.one-item.result (seen a c.loop-i.state) below
    (ap (λ (n : ℕ). nat_eq (c.loop-i.i + 1) n) long) ∙ c.in_ok-forms.ensures) joined

pub returns-in_err-forms : goal.returns-in_err-forms
returns-in_err-forms g c =
    let a = g.S.Surroundings.around c.args.outside.now in
    let long : c.len.result ≡ length c.args.all.now.items = omega arith in
    let below : c.loop-i.i < length c.args.all.now.items = omega arith in
    let p = err_from_is_err_and c.from_residual.result c.from_residual.ensures.1 in
    rw (p.1, p.2) (stops (all_forms a) (all_forms a) c.in_err-forms.field-0.0 (seen a c.initializer.new.state) _ _ _ _
    (next_item lists lists_join (λ (l : List Init) st. cl.initializers (class_around a c.args.around.now) (map unit_view.init l) st)
    (λ (x : Init) (xs : List Init) st. cl.initializer (class_around a c.args.around.now) (map unit_view.init xs) (unit_view.init_kind x.kind) st) (λ x xs st. refl)
    c.args.all.now.items c.deref-one-items.result.now c.loop-i.i c.one-item.result (cores a c.loop-i.found.items) (seen a c.loop-i.state) _
    c.deref-one-items.ensures.value c.loop-i-test.true c.one-item.is c.loop-i.invariant)
    (subst (λ (walk : w.Went (List Core)). Gives (all_forms a) (Err c.in_err-forms.field-0.0) (seen a c.initializer.new.state) walk)
    (sym (initializer_by (class_around a c.args.around.now) c.args.all.now.items c.loop-i.i (nat_eq (c.loop-i.i + 1) c.len.result) c.one-item.result (seen a c.loop-i.state) below
    (ap (λ (n : ℕ). nat_eq (c.loop-i.i + 1) n) long))) c.in_err-forms.ensures))

pub returns : goal.returns
returns g c =
    let a = g.S.Surroundings.around c.args.outside.now in
    let past : length c.deref-one-items.result.now ≤ c.loop-i.i = omega arith in
    end_items lists [] nothing_behind (λ (l : List Init) st. cl.initializers (class_around a c.args.around.now) (map unit_view.init l) st) (λ st. refl)
    c.args.all.now.items c.deref-one-items.result.now c.loop-i.i (cores a c.loop-i.found.items) (seen a c.loop-i.state) _ c.deref-one-items.ensures.value past c.loop-i.invariant
