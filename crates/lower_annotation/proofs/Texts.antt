-- What is said of types whose names are numbers is so where their names are texts.
use Rattle.std.proofs.Common.{◌≡◌, ◌∙◌, ℕ, zero, suc, ◌+◌, ◌<◌, ◌≤◌, nat_lt, cond, List, ◌||◌, refl, sym, ap}
use Rattle.std.proofs.lemmas.Bool.{le-ltb, lt-ltb}
use Rattle.core_program.specs.ProgramView.{text_at}
use Rattle.dart_base.specs.declared.limit.TheConstants.{TYPE_NODES}
use Rattle.dart_ir.specs.Ty as dart
use Rattle.dart_ir.specs.declared.types.TypeRef.{TypeRef, Dynamic}
use Rattle.dart_ir.proofs.View.{ty_dynamic}
use Rattle.translation.specs.Surroundings.{Text}
use Rattle.translation.specs.Types as y
use Rattle.lower_leaf.specs.Around.{Around, ty, types}
use Rattle.lower_leaf.proofs.TypeLaws.{tys_named}
use Rattle.lower_annotation.specs.Written.{within_limit}
use Rattle.core_program.specs.Named as with_names
use Rattle.dart_ir.specs.Ty.{Ty, Tys, NamedTys, TyOf, TysOf, NamedTysOf, dynamic, bottom, void, class, parameter, function, nil, cons, unnamed, named}
use Rattle.dart_type.specs.Instance as by_number
use Rattle.lower_annotation.specs.Instance as i

module _ {M : Type 0} (f : ℕ → M) where
  argument-named : (ts : Tys) (n : ℕ) → with_names.ty f (by_number.argument ts n) ≡ i.argument (with_names.tys f ts) n
  argument-named nil n = refl
  argument-named (cons t ts) zero = refl
  argument-named (cons t ts) (suc n) = argument-named ts n

  mutual
    pub instance-named : (ts : Tys) (t : Ty) → with_names.ty f (by_number.instance ts t) ≡ i.instance (with_names.tys f ts) (with_names.ty f t)
    instance-named ts dynamic = refl
    instance-named ts bottom = refl
    instance-named ts void = refl
    instance-named ts (class c given) = ap (class c) (instances-named ts given)
    instance-named ts (parameter n) = argument-named ts n
    instance-named ts (function r q o n) =
        λ j. function (instance-named ts r j) (instances-named ts q j) (instances-named ts o j) (named-instances-named ts n j)

    instances-named : (ts us : Tys) → with_names.tys f (by_number.instances ts us) ≡ i.instances (with_names.tys f ts) (with_names.tys f us)
    instances-named ts nil = refl
    instances-named ts (cons u us) = λ j. cons (instance-named ts u j) (instances-named ts us j)

    named-instances-named : (ts : Tys) (ns : NamedTys) → with_names.named_tys f (by_number.named_instances ts ns) ≡ i.named_instances (with_names.tys f ts) (with_names.named_tys f ns)
    named-instances-named ts unnamed = refl
    named-instances-named ts (named k t ns) = λ j. named (f k) (instance-named ts t j) (named-instances-named ts ns j)

  mutual
    pub count-named : (t : Ty) → i.node_count (with_names.ty f t) ≡ by_number.node_count t
    count-named dynamic = refl
    count-named bottom = refl
    count-named void = refl
    count-named (class c given) = ap (λ n. 1 + n) (counts-named given)
    count-named (parameter n) = refl
    count-named (function r q o n) =
        λ j. 1 + (count-named r j + (counts-named q j + (counts-named o j + named-counts-named n j)))

    counts-named : (ts : Tys) → i.node_counts (with_names.tys f ts) ≡ by_number.node_counts ts
    counts-named nil = refl
    counts-named (cons t ts) = λ j. count-named t j + counts-named ts j

    named-counts-named : (ns : NamedTys) → i.named_node_count (with_names.named_tys f ns) ≡ by_number.named_node_count ns
    named-counts-named unnamed = refl
    named-counts-named (named k t ns) = λ j. count-named t j + named-counts-named ns j

  mutual
    pub bottom-named : (t : Ty) → i.has_bottom (with_names.ty f t) ≡ i.has_bottom t
    bottom-named dynamic = refl
    bottom-named bottom = refl
    bottom-named void = refl
    bottom-named (class c given) = bottoms-named given
    bottom-named (parameter n) = refl
    bottom-named (function r q o n) =
        λ j. bottom-named r j || (bottoms-named q j || (bottoms-named o j || named-bottoms-named n j))

    bottoms-named : (ts : Tys) → i.have_bottom (with_names.tys f ts) ≡ i.have_bottom ts
    bottoms-named nil = refl
    bottoms-named (cons t ts) = λ j. bottom-named t j || bottoms-named ts j

    named-bottoms-named : (ns : NamedTys) → i.named_have_bottom (with_names.named_tys f ns) ≡ i.named_have_bottom ns
    named-bottoms-named unnamed = refl
    named-bottoms-named (named k t ns) = λ j. bottom-named t j || named-bottoms-named ns j

-- ---- as contracts see types

pub seen-bottom : (a : Around) (x : TypeRef) → i.has_bottom (ty a x) ≡ i.has_bottom (dart.ty x)
unfolding ty
seen-bottom a x = bottom-named (text_at a.texts) (dart.ty x)

seen-put : (a : Around) (ts : List TypeRef) (t : TypeRef) → with_names.ty (text_at a.texts) (by_number.instance (dart.tys ts) (dart.ty t)) ≡ i.instance (y.tys (types a ts)) (ty a t)
unfolding ty
seen-put a ts t = instance-named (text_at a.texts) (dart.tys ts) (dart.ty t)
    ∙ ap (λ (args : TysOf Text). i.instance args (with_names.ty (text_at a.texts) (dart.ty t))) (tys_named (text_at a.texts) ts)

seen-count : (a : Around) (ts : List TypeRef) (t : TypeRef) → i.node_count (i.instance (y.tys (types a ts)) (ty a t)) ≡ by_number.node_count (by_number.instance (dart.tys ts) (dart.ty t))
seen-count a ts t = sym (ap i.node_count (seen-put a ts t)) ∙ count-named (text_at a.texts) (by_number.instance (dart.tys ts) (dart.ty t))

-- an instance that fits
pub seen-instance : (a : Around) (ts : List TypeRef) (t made : TypeRef) → dart.ty made ≡ by_number.instance (dart.tys ts) (dart.ty t)
    → by_number.node_count (by_number.instance (dart.tys ts) (dart.ty t)) ≤ TYPE_NODES → ty a made ≡ within_limit (i.instance (y.tys (types a ts)) (ty a t))
unfolding ty
seen-instance a ts t made is fits =
    let whole = i.instance (y.tys (types a ts)) (ty a t) in
    ap (with_names.ty (text_at a.texts)) is ∙ seen-put a ts t
    ∙ sym (ap (λ b. cond b dynamic whole) (ap (nat_lt TYPE_NODES) (seen-count a ts t) ∙ le-ltb TYPE_NODES (by_number.node_count (by_number.instance (dart.tys ts) (dart.ty t))) fits))

-- and one that doesn't
pub large-instance : (a : Around) (ts : List TypeRef) (t : TypeRef) → TYPE_NODES < by_number.node_count (by_number.instance (dart.tys ts) (dart.ty t))
    → ty a Dynamic ≡ within_limit (i.instance (y.tys (types a ts)) (ty a t))
unfolding ty
large-instance a ts t large =
    let whole = i.instance (y.tys (types a ts)) (ty a t) in
    ap (with_names.ty (text_at a.texts)) ty_dynamic
    ∙ sym (ap (λ b. cond b dynamic whole) (ap (nat_lt TYPE_NODES) (seen-count a ts t) ∙ lt-ltb TYPE_NODES (by_number.node_count (by_number.instance (dart.tys ts) (dart.ty t))) large))

pub ruleset bottoms = (seen-bottom)
