use Rattle.std.proofs.Common.{◌∙◌, ap, map}
use Rattle.dart_ir.specs.Ty.{class, ty, tys, named_ty, of_list}
use Rattle.dart_ir.proofs.View.{ty_class, function_roll}
use Rattle.dart_type.specs.Instance.{instance, named_instance}
use Rattle.dart_type.proofs.Instances.{instances_map, function_put}
use Rattle.class_table.proofs.instance.+instantiating.Goals as goal

pub put_in-returns-in_ok-put_in_all-in-Class : goal.put_in-returns-in_ok-put_in_all-in-Class
put_in-returns-in_ok-put_in_all-in-Class t c =
    rw (c.in-Class.is, ty_class, ty_class, ← c.deref.ensures.value)
    (ap (class c.in-Class.c.0) (ap of_list c.in_ok-put_in_all-in-Class.ensures ∙ instances_map (tys c.args.args.now) c.deref.result.now))

pub put_in_function-returns : goal.put_in_function-returns
put_in_function-returns t c =
    rw function_roll
    (function_put (tys c.args.args.now) c.in_ok-result.result c.in_ok-required.required.items c.in_ok-optional.optional.items c.in_ok-named.named.items c.args.f.now
    c.in_ok-result.ensures
    (c.in_ok-required.ensures ∙ ap (map (λ u. instance (tys c.args.args.now) (ty u))) c.deref.ensures.value)
    (c.in_ok-optional.ensures ∙ ap (map (λ u. instance (tys c.args.args.now) (ty u))) c.deref-2.ensures.value)
    (c.in_ok-named.ensures ∙ ap (map (λ u. named_instance (tys c.args.args.now) (named_ty u))) c.deref-3.ensures.value))
