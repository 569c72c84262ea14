use Rattle.std.proofs.Common.{◌≡◌, ◌∙◌, ◌<◌, ◌≤◌, ◌+◌, ◌*◌, ◌↔◌, IsTrue, false, Some, length, slice_get, All, sym, ap, refl, arith, subst as transport}
use Rattle.std.specs.Result.{IfOk}
use Rattle.std.proofs.lemmas.Option.{slice_get_read, slice_get_past}
use Rattle.std.proofs.lemmas.List.Elements.{All-get_or}
use Rattle.dart_ir.specs.Ty.{Ty, ty, tys, class}
use Rattle.dart_ir.specs.Classes.{IsEarlierClass, class_at, direct_supertypes, with_superclass}
use Rattle.dart_ir.proofs.View.{ty_dynamic, ty_bottom, ty_void, ty_param, ty_class, ty_function, function_out}
use Rattle.dart_ir.specs.declared.types.TypeRef.{TypeRef}
use Rattle.dart_type.specs.Instance.{instance}
use Rattle.class_size.specs.Size.{IsLargeAbove}
use Rattle.class_size.specs.Bound.{HasLarge, rank}
use Rattle.class_size.proofs.Larger.{dynamic_above, bottom_above, void_above, parameter_above, function_above, unlisted_above, bounded_above, all_front, all_behind, superclass_large, interfaces_large, rank_below, one_large, one_below, one_small, none_large}
use Rattle.class_size.proofs.large.Sizes.+climbing.Goals as goal

pub is_large_above_class-is_any_large-requires : goal.is_large_above_class-is_any_large-requires
is_large_above_class-is_any_large-requires t c =
    let e : 3 * c.args.c + 1 ≡ t = c.decreases in
    let k = c.args.self.now.classes.now in
    let i = c.in-Some.info.now in
    let h = c.in-Some.ensures.lookup in
    let at : class_at k c.args.c ≡ Some i =
    ap (λ xs. slice_get xs c.args.c) (sym c.deref.ensures.value) ∙ slice_get_read c.deref.result.now (length c.deref.result.now) c.args.c i refl h.3.0 h.1 in (
      omega (arith, e),
      (c.requires.valid, (c.requires.bounds, transport (All (λ u. IsEarlierClass c.args.c (ty u))) (sym c.listed-superclass.ensures) (all_front (λ u. IsEarlierClass c.args.c (ty u)) i.superclass i.interfaces.items (c.requires.valid.classes c.args.c i at).supertypes))),
    )

pub is_large_above_class-returns-then-branch : goal.is_large_above_class-returns-then-branch
is_large_above_class-returns-then-branch t c =
    let k = c.args.self.now.classes.now in
    let i = c.in-Some.info.now in
    let h = c.in-Some.ensures.lookup in
    let at : class_at k c.args.c ≡ Some i =
    ap (λ xs. slice_get xs c.args.c) (sym c.deref.ensures.value) ∙ slice_get_read c.deref.result.now (length c.deref.result.now) c.args.c i refl h.3.0 h.1 in
    superclass_large k (tys c.args.args.now) c.args.c i at c.listed-superclass.result.now c.listed-superclass.ensures c.in_ok-is_any_large-in-Some.field-0 c.if-branch.true c.in_ok-is_any_large-in-Some.ensures

pub is_large_above_class-is_any_large-requires-in-Some : goal.is_large_above_class-is_any_large-requires-in-Some
is_large_above_class-is_any_large-requires-in-Some t c =
    let e : 3 * c.args.c + 1 ≡ t = c.decreases in
    let k = c.args.self.now.classes.now in
    let i = c.in-Some.info.now in
    let h = c.in-Some.ensures.lookup in
    let at : class_at k c.args.c ≡ Some i =
    ap (λ xs. slice_get xs c.args.c) (sym c.deref.ensures.value) ∙ slice_get_read c.deref.result.now (length c.deref.result.now) c.args.c i refl h.3.0 h.1 in (
      omega (arith, e),
      (c.requires.valid, (c.requires.bounds, transport (All (λ u. IsEarlierClass c.args.c (ty u))) (sym c.deref-in-Some.ensures.value) (all_behind (λ u. IsEarlierClass c.args.c (ty u)) i.superclass i.interfaces.items (c.requires.valid.classes c.args.c i at).supertypes))),
    )

pub is_large_above_class-returns-in-None : goal.is_large_above_class-returns-in-None
is_large_above_class-returns-in-None t c =
    unlisted_above c.args.self.now.classes.now c.args.c (tys c.args.args.now) (ap (λ xs. slice_get xs c.args.c) (sym c.deref.ensures.value) ∙ slice_get_past c.deref.result.now c.args.c c.in-None.ensures.lookup.3)

pub is_large_above_class-returns-in_ok-last-in-Some : goal.is_large_above_class-returns-in_ok-last-in-Some
is_large_above_class-returns-in_ok-last-in-Some t c =
    let k = c.args.self.now.classes.now in
    let i = c.in-Some.info.now in
    let h = c.in-Some.ensures.lookup in
    let at : class_at k c.args.c ≡ Some i =
    ap (λ xs. slice_get xs c.args.c) (sym c.deref.ensures.value) ∙ slice_get_read c.deref.result.now (length c.deref.result.now) c.args.c i refl h.3.0 h.1 in
    interfaces_large k (tys c.args.args.now) c.args.c i at c.listed-superclass.result.now c.listed-superclass.ensures c.in_ok-is_any_large-in-Some.field-0 c.in_ok-last-in-Some.last c.if-branch.false c.in_ok-is_any_large-in-Some.ensures c.deref-in-Some.result.now c.deref-in-Some.ensures.value c.in_ok-last-in-Some.ensures

pub is_any_large-is_large_above-requires : goal.is_any_large-is_large_above-requires
is_any_large-is_large_above-requires t c =
    let e : 3 * c.args.c ≡ t = c.decreases in
    let ts = tys c.args.args.now in
    let x = c.t-item.result in
    let earlier : IsEarlierClass c.args.c (ty x) =
    transport (λ (u : TypeRef). IsEarlierClass c.args.c (ty u)) (sym c.t-item.is) (c.requires.earlier c.loop-t.t-index x c.loop-t-test.true) in
    let r = rank_below ts c.args.c (ty x) earlier in
    let q : rank (ty c.in-Ok.made) ≡ rank (instance ts (ty x)) = ap rank c.in-Ok.ensures.value in
    (omega (arith, e, r, q), (c.requires.valid, c.requires.bounds))

pub is_large_above-is_large_above_class-requires : goal.is_large_above-is_large_above_class-requires
is_large_above-is_large_above_class-requires t c =
    let e : 3 * rank (ty c.args.t.now) + 2 ≡ t = c.decreases in
    let q : rank (ty c.args.t.now) ≡ c.in-Class.class.0 = ap rank (ap ty c.in-Class.is ∙ ty_class c.in-Class.class c.in-Class.args) in
    (omega (arith, e, q), (c.requires.valid, c.requires.bounds))

pub is_large_above-returns-in-Class : goal.is_large_above-returns-in-Class
is_large_above-returns-in-Class t c =
    transport (λ x. IfOk c.is_large_above_class.result (λ b. IsTrue b ↔ IsLargeAbove c.args.self.now.classes.now x))
    (ap (λ us. class c.in-Class.class.0 (tys us)) c.deref.ensures.value ∙ sym (ap ty c.in-Class.is ∙ ty_class c.in-Class.class c.in-Class.args))
    c.is_large_above_class.ensures

pub is_large_above-returns-in-Dynamic : goal.is_large_above-returns-in-Dynamic
is_large_above-returns-in-Dynamic t c = transport (λ x. IsTrue false ↔ IsLargeAbove c.args.self.now.classes.now x) (sym (ap ty c.in-Dynamic.is ∙ ty_dynamic)) (dynamic_above c.args.self.now.classes.now)

pub is_large_above-returns-in-Bottom : goal.is_large_above-returns-in-Bottom
is_large_above-returns-in-Bottom t c = transport (λ x. IsTrue false ↔ IsLargeAbove c.args.self.now.classes.now x) (sym (ap ty c.in-Bottom.is ∙ ty_bottom)) (bottom_above c.args.self.now.classes.now)

pub is_large_above-returns-in-Void : goal.is_large_above-returns-in-Void
is_large_above-returns-in-Void t c = transport (λ x. IsTrue false ↔ IsLargeAbove c.args.self.now.classes.now x) (sym (ap ty c.in-Void.is ∙ ty_void)) (void_above c.args.self.now.classes.now)

pub is_large_above-returns-in-Param : goal.is_large_above-returns-in-Param
is_large_above-returns-in-Param t c = transport (λ x. IsTrue false ↔ IsLargeAbove c.args.self.now.classes.now x) (sym (ap ty c.in-Param.is ∙ ty_param c.in-Param.field-0)) (parameter_above c.args.self.now.classes.now c.in-Param.field-0)

pub is_large_above-returns-in-Function : goal.is_large_above-returns-in-Function
is_large_above-returns-in-Function t c = transport (λ x. IsTrue false ↔ IsLargeAbove c.args.self.now.classes.now x) (sym (ap ty c.in-Function.is ∙ ty_function c.in-Function.field-0 ∙ function_out c.in-Function.field-0.value)) (function_above c.args.self.now.classes.now _ _ _ _)
