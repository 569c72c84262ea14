use Rattle.std.proofs.Common.{◌≡◌, ◌≤◌, ◌<◌, ◌++◌, length, drop, refl, ap, ◌∙◌, arith}
use Rattle.std.proofs.lemmas.List.{map-append}
use Rattle.std.proofs.lemmas.Result.{err_from_is_err_and}
use Rattle.lower_leaf.specs.Forms.{core, cores}
use Rattle.lower_leaf.specs.Seen.{seen}
use Rattle.lower_function.specs.Made.{parameters}
use Rattle.lower_operand.specs.Made.{all_forms}
use Rattle.lower_decl.proofs.Stops.{stops}
use Rattle.lower_class.specs.Views.{class_around}
use Rattle.lower_class.proofs.Formal.{next_formal, step_formal, end_formals, unbound_formals}
use Rattle.lower_class.proofs.initialise.formals.Goals as goal

pub loop-one-preserved : goal.loop-one-preserved
loop-one-preserved g c =
    let a = g.S.Surroundings.around c.args.outside.now in
    let joined : cores a c.append.new.self.items ≡ cores a c.loop-one.found.items ++ cores a c.in_ok-forms.forms.items =
    ap (cores a) c.in_ok-append.ensures.items ∙ map-append (core a) c.loop-one.found.items c.in_ok-forms.forms.items in
    let below : c.loop-one.i < length c.args.bound.now.items = omega arith in
    step_formal a (class_around a c.args.around.now) c.args.all.now.items c.deref-one-items.result.now c.loop-one.one-index c.one-item.result
    c.args.bound.now.items c.args.bound.now.items c.loop-one.i c.index.result.now (cores a c.loop-one.found.items) (cores a c.in_ok-forms.forms.items) (cores a c.append.new.self.items)
    (seen a c.loop-one.state) _ _ c.deref-one-items.ensures.value c.loop-one-test.true c.one-item.is refl below c.index.ensures c.loop-one.invariant c.in_ok-forms.ensures joined

pub returns-then-i-len : goal.returns-then-i-len
returns-then-i-len g c =
    let a = g.S.Surroundings.around c.args.outside.now in
    let past : length c.args.bound.now.items ≤ c.loop-one.i = omega arith in
    unbound_formals a (class_around a c.args.around.now) (drop c.loop-one.one-index c.args.all.now.items) c.args.bound.now.items c.args.bound.now.items c.loop-one.i
    (cores a c.loop-one.found.items) (seen a c.loop-one.state) _ refl past c.loop-one.invariant

pub returns-in_err-forms : goal.returns-in_err-forms
returns-in_err-forms g c =
    let a = g.S.Surroundings.around c.args.outside.now in
    let below : c.loop-one.i < length c.args.bound.now.items = omega arith in
    let p = err_from_is_err_and c.from_residual.result c.from_residual.ensures.1 in
    rw (p.1, p.2) (stops (all_forms a) (all_forms a) c.in_err-forms.field-0.0 _ _ _ _ _ (next_formal a (class_around a c.args.around.now) c.args.all.now.items c.deref-one-items.result.now
    c.loop-one.one-index c.one-item.result c.args.bound.now.items c.args.bound.now.items c.loop-one.i c.index.result.now (cores a c.loop-one.found.items) (seen a c.loop-one.state) _
    c.deref-one-items.ensures.value c.loop-one-test.true c.one-item.is refl below c.index.ensures c.loop-one.invariant) c.in_err-forms.ensures)

pub returns : goal.returns
returns g c =
    let a = g.S.Surroundings.around c.args.outside.now in
    let past : length c.deref-one-items.result.now ≤ c.loop-one.one-index = omega arith in
    end_formals (class_around a c.args.around.now) c.args.all.now.items c.deref-one-items.result.now c.loop-one.one-index (drop c.loop-one.i (parameters a c.args.bound.now))
    (cores a c.loop-one.found.items) (seen a c.loop-one.state) _ c.deref-one-items.ensures.value past c.loop-one.invariant
