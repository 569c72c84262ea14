use Rattle.std.proofs.Common.{◌≡◌, ◌∙◌, sym, ap, arith, subst as transport}
use Rattle.dart_ir.specs.Ty.{Ty, ty, tys, class}
use Rattle.dart_ir.proofs.View.{ty_class}
use Rattle.dart_type.specs.Instance.{node_count}
use Rattle.class_size.specs.Bound.{IsTypeBound, IsBoundAbove}
use Rattle.class_size.proofs.Bounded.{class_bound}
use Rattle.class_size.proofs.bound.type_bound.Goals as goal

pub returns-in-Class : goal.returns-in-Class
returns-in-Class c = λ k h.
    let us = tys c.in-Class.args.items in
    let e : ty c.args.t.now ≡ class c.in-Class.class.0 us = ap ty c.in-Class.is ∙ ty_class c.in-Class.class c.in-Class.args in
    let above : IsBoundAbove k c.bound_above.result c.in-Class.class.0 us =
    transport (λ xs. IsBoundAbove k c.bound_above.result c.in-Class.class.0 (tys xs)) c.deref.ensures.value (c.bound_above.ensures k h) in
    transport (IsTypeBound k c.max.result) (sym e)
    (class_bound k c.in-Class.class.0 c.size.result c.bound_above.result c.max.result us (omega (arith, c.max.ensures)) (omega (arith, c.max.ensures)) (λ l. ap node_count (sym e) ∙ c.size.ensures.counted l) above)
