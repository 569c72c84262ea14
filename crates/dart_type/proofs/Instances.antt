-- Lists of types, as the code reads and instantiates them.
use Rattle.std.proofs.Common.{◌≡◌, ℕ, zero, suc, ◌<◌, ◌≤◌, length, get_or, arith, List, [], ◌∷◌, map, refl, sym, ap, ◌∙◌, slice_get, Option, Some, None}
use Rattle.dart_ir.specs.Ty.{Ty, Tys, NamedTys, dynamic, bottom, void, class, parameter, function, cons, named, ty, function_ty, tys, named_ty, named_tys, of_list, of_named}
use Rattle.dart_ir.specs.declared.types.TypeRef.{TypeRef, Dynamic}
use Rattle.dart_ir.specs.declared.types.TypeRef.TheViews.{out-FunctionType}
use Rattle.dart_ir.specs.declared.types.FunctionType.{FunctionType}
use Rattle.dart_ir.specs.declared.types.NamedType.{NamedType}
use Rattle.dart_ir.proofs.View.{views, ty_dynamic, function_out}
use Rattle.dart_type.specs.Instance.{argument, instance, instances, named_instance, named_instances, node_count}

pub instances_map : (ts : Tys) (us : List TypeRef) → of_list (map (λ t. instance ts (ty t)) us) ≡ instances ts (tys us)
instances_map ts [] = refl
instances_map ts (u ∷ us) = ap (cons (instance ts (ty u))) (instances_map ts us)

pub named_instances_map : (ts : Tys) (ns : List NamedType) → of_named (map (λ n. named_instance ts (named_ty n)) ns) ≡ named_instances ts (named_tys ns)
named_instances_map ts [] = refl
named_instances_map ts (n ∷ ns) = ap (named (named_ty n).0 (instance ts (named_ty n).1)) (named_instances_map ts ns)

abbrev or_dynamic : Option TypeRef → Ty
or_dynamic None = dynamic
or_dynamic (Some t) = ty t

argument_is : (ts : List TypeRef) (i : ℕ) → argument (tys ts) i ≡ or_dynamic (slice_get ts i)
argument_is [] i = refl
argument_is (t ∷ ts) zero = refl
argument_is (t ∷ ts) (suc i) = argument_is ts i

pub argument_some : (ts : List TypeRef) (i : ℕ) (t : TypeRef) → slice_get ts i ≡ Some t → ty t ≡ argument (tys ts) i
argument_some ts i t e = sym (argument_is ts i ∙ ap or_dynamic e)

pub argument_none : (ts : List TypeRef) (i : ℕ) → slice_get ts i ≡ None → ty Dynamic ≡ argument (tys ts) i
argument_none ts i e = ty_dynamic ∙ sym (argument_is ts i ∙ ap or_dynamic e)

pub argument_below : (ts : List TypeRef) (i : ℕ) (d : TypeRef) → i < length ts → ty (get_or ts i d) ≡ argument (tys ts) i
argument_below [] i d h = absurd (omega (arith, h))
argument_below (t ∷ ts) zero d h = refl
argument_below (t ∷ ts) (suc i) d h = argument_below ts i d (omega (arith, h))

pub argument_past : (ts : List TypeRef) (i : ℕ) → length ts ≤ i → ty Dynamic ≡ argument (tys ts) i
argument_past [] i h = ty_dynamic
argument_past (t ∷ ts) zero h = absurd (omega (arith, h))
argument_past (t ∷ ts) (suc i) h = argument_past ts i (omega (arith, h))

pub function_parts : (r s : Ty) (q p o e : Tys) (n m : NamedTys) → r ≡ s → q ≡ p → o ≡ e → n ≡ m → function r q o n ≡ function s p e m
function_parts r s q p o e n m a b c d = cc

-- a function type whose parts are those of another with arguments put in
pub function_put : (ts : Tys) (r : TypeRef) (q o : List TypeRef) (n : List NamedType) (f : FunctionType) → ty r ≡ instance ts (ty (out-FunctionType f).result)
    → map ty q ≡ map (λ t. instance ts (ty t)) (out-FunctionType f).required.items → map ty o ≡ map (λ t. instance ts (ty t)) (out-FunctionType f).optional.items
    → map named_ty n ≡ map (λ m. named_instance ts (named_ty m)) (out-FunctionType f).named.items → function (ty r) (tys q) (tys o) (named_tys n) ≡ instance ts (function_ty f)
function_put ts r q o n f a b c d =
    function_parts (ty r) (instance ts (ty (out-FunctionType f).result)) (tys q) (instances ts (tys (out-FunctionType f).required.items)) (tys o) (instances ts (tys (out-FunctionType f).optional.items)) (named_tys n) (named_instances ts (named_tys (out-FunctionType f).named.items)) a
    (ap of_list b ∙ instances_map ts (out-FunctionType f).required.items)
    (ap of_list c ∙ instances_map ts (out-FunctionType f).optional.items)
    (ap of_named d ∙ named_instances_map ts (out-FunctionType f).named.items)
    ∙ sym (ap (instance ts) (function_out f))

pub node_count_positive : (t : Ty) → 0 < node_count t
node_count_positive dynamic = omega arith
node_count_positive bottom = omega arith
node_count_positive void = omega arith
node_count_positive (parameter i) = omega arith
node_count_positive (class c ts) = omega arith
node_count_positive (function r q o n) = omega arith

pub ruleset instance_views = (views, argument_some, argument_none, instances_map, named_instances_map)
