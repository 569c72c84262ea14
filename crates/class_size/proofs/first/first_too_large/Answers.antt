use Rattle.std.proofs.Common.{◌≡◌, ◌∙◌, ◌<◌, List, length, get_or, sym, ap, arith, subst as transport}
use Rattle.class_fault.specs.declared.program.Declaration.{Declaration}
use Rattle.class_size.specs.Bound.{AreBounds}
use Rattle.class_size.proofs.Firsts.{all_here, all_later, all_none}
use Rattle.class_size.proofs.first.first_too_large.Goals as goal

pub first_of_user-requires-clause-bounds : goal.first_of_user-requires-clause-bounds
first_of_user-requires-clause-bounds c = transport (AreBounds c.args.classes.now) (sym c.deref.ensures.value) c.in_ok-bounds.ensures.bounds

pub returns-in-Some : goal.returns-in-Some
returns-in-Some c =
    let all = c.args.program.now.declarations.items in
    let j = c.loop-declaration.declaration-index in
    let x = c.declaration-item.result in
    let e = c.deref-declaration-items.ensures.value in
    let at : x ≡ get_or all j x = c.declaration-item.is ∙ ap (λ (ds : List Declaration). get_or ds j x) e in
    let l : j < length all = omega (arith, c.loop-declaration-test.true, ap length e) in
    all_here c.args.classes.now c.args.numbers.now all j x at l c.loop-declaration.invariant c.in_ok-place.field-0 c.in_ok-place.ensures c.in-Some.place c.in-Some.is

pub loop-declaration-preserved : goal.loop-declaration-preserved
loop-declaration-preserved c =
    let all = c.args.program.now.declarations.items in
    let j = c.loop-declaration.declaration-index in
    let x = c.declaration-item.result in
    let e = c.deref-declaration-items.ensures.value in
    let at : x ≡ get_or all j x = c.declaration-item.is ∙ ap (λ (ds : List Declaration). get_or ds j x) e in
    let l : j < length all = omega (arith, c.loop-declaration-test.true, ap length e) in
    all_later c.args.classes.now c.args.numbers.now all j x at l c.loop-declaration.invariant c.in_ok-place.field-0 c.in_ok-place.ensures c.in_default.is

pub returns : goal.returns
returns c =
    let e = c.deref-declaration-items.ensures.value in
    all_none c.args.classes.now c.args.numbers.now c.args.program.now.declarations.items c.loop-declaration.declaration-index c.loop-declaration.invariant (omega (arith, c.loop-declaration-test.false, ap length e))
