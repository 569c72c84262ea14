use Rattle.std.proofs.Common.{◌≡◌, map, take}
use Rattle.dart_ir.specs.Ty.{ty, tys, named_ty}
use Rattle.dart_type.specs.Instance.{instance, named_instance}
use Rattle.class_table.proofs.instance.+instantiating.Given as goal

abbrev pub invariant-put_in_all-loop-t : goal.invariant-put_in_all-loop-t
invariant-put_in_all-loop-t l = map ty l.v.items ≡ map (λ t. instance (tys l.args) (ty t)) (take l.t-index l.ts)

abbrev pub invariant-put_in_named-loop-n : goal.invariant-put_in_named-loop-n
invariant-put_in_named-loop-n l = map named_ty l.v.items ≡ map (λ n. named_instance (tys l.args) (named_ty n)) (take l.n-index l.ns)
