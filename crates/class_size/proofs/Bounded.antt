-- Bounds on the sizes of types with arguments put in.
use Rattle.std.proofs.Common.{◌≡◌, ℕ, zero, suc, ◌<◌, ◌≤◌, ◌+◌, ◌*◌, ◌⊎◌, max, inl, inr, List, [], ◌∷◌, ◌++◌, length, length-append, get_or, drop, Option, Some, None, slice_get, arith, refl, sym, ap, ◌∙◌, subst as transport}
use Rattle.std.proofs.lemmas.Bool.{cases_eq}
use Rattle.std.proofs.lemmas.List.{drop_more, drop_all}
use Rattle.std.proofs.lemmas.Option.{same_Some, slice_get_read}
use Rattle.dart_base.specs.declared.limit.TheConstants.{TYPE_NODES}
use Rattle.dart_ir.specs.Ty.{Ty, Tys, NamedTys, dynamic, bottom, void, class, parameter, function, nil, cons, unnamed, named, ty, tys}
use Rattle.dart_ir.specs.Classes.{class_at, direct_supertypes, with_superclass}
use Rattle.dart_ir.specs.declared.types.TypeRef.{TypeRef}
use Rattle.dart_ir.specs.declared.class.ClassInfo.{ClassInfo}
use Rattle.dart_ir.specs.declared.class.Classes.{Classes}
use Rattle.dart_type.specs.Instance.{argument, instance, instances, named_instances, node_count, node_counts, named_node_count}
use Rattle.class_size.specs.Size.{IsAbove, direct, further}
use Rattle.class_size.specs.Bound.{AreAtMost, IsBound, AreBounds, IsTypeBound, AreTypeBounds, IsScaled, IsBoundAbove}

times_mono : (a b m : ℕ) → a ≤ b → a * m ≤ b * m
times_mono a b m h = grind arith

argument_size : (ts : Tys) (m : ℕ) → AreAtMost m ts → 0 < m → (i : ℕ) → node_count (argument ts i) ≤ m
argument_size nil m h l i = omega (arith, l)
argument_size (cons t ts) m h l zero = h.0
argument_size (cons t ts) m h l (suc i) = argument_size ts m h.1 l i

module _ (ts : Tys) (m : ℕ) (most : AreAtMost m ts) (positive : 0 < m) where
  mutual
    pub instance_size : (t : Ty) → node_count (instance ts t) ≤ node_count t * m
    instance_size dynamic = omega (arith, positive)
    instance_size bottom = omega (arith, positive)
    instance_size void = omega (arith, positive)
    instance_size (parameter i) = let a = argument_size ts m most positive i in omega (arith, a)
    instance_size (class c us) = let a = instances_size us in omega (arith, a, positive)
    instance_size (function r q o n) =
        let a = instance_size r in
        let b = instances_size q in
        let d = instances_size o in
        let e = named_size n in
        omega (arith, a, b, d, e, positive)

    instances_size : (us : Tys) → node_counts (instances ts us) ≤ node_counts us * m
    instances_size nil = omega arith
    instances_size (cons u us) = let a = instance_size u in let b = instances_size us in omega (arith, a, b)

    named_size : (us : NamedTys) → named_node_count (named_instances ts us) ≤ named_node_count us * m
    named_size unnamed = omega arith
    named_size (named x u us) = let a = instance_size u in let b = named_size us in omega (arith, a, b)

  instances_at_most : (us : Tys) (n : ℕ) → AreAtMost n us → AreAtMost (n * m) (instances ts us)
  instances_at_most nil n h = tt
  instances_at_most (cons u us) n h =
      let a = instance_size u in
      let b = times_mono (node_count u) n m h.0 in
      (omega (arith, a, b), instances_at_most us n h.1)

-- types of at most a nodes have at most b nodes where b isn't smaller
pub at_most_more : (a b : ℕ) (ts : Tys) → a ≤ b → AreAtMost a ts → AreAtMost b ts
at_most_more a b nil l h = tt
at_most_more a b (cons t ts) l h = (let s = h.0 in omega (arith, l, s), at_most_more a b ts l h.1)

-- the bound that claims nothing
pub unknown_bound : (k : Classes) (t : Ty) → IsTypeBound k (TYPE_NODES + 1) t
unknown_bound k t small ts m most positive = absurd (omega (arith, small))

pub unknown_above : (k : Classes) (c : ℕ) (us : Tys) → IsBoundAbove k (TYPE_NODES + 1) c us
unknown_above k c us small ws m v positive scaled above = absurd (omega (arith, small))

pub larger_bound : (k : Classes) (a b : ℕ) (t : Ty) → a ≤ b → IsTypeBound k a t → IsTypeBound k b t
larger_bound k a b t l h small ts m most positive =
    let r = h (omega (arith, l, small)) ts m most positive in
    let n = times_mono a b m l in
    (let s = r.0 in omega (arith, s, n), λ v above. let s = r.1 v above in omega (arith, s, n))

-- the bound of a class and the size of its largest argument
pub bound_times : (k : Classes) (bs : List ℕ) (c b most p : ℕ) (us : Tys) → AreBounds k bs → slice_get bs c ≡ Some b → 0 < most → (most ≤ TYPE_NODES → AreAtMost most us)
    → (p ≤ TYPE_NODES → (b ≤ TYPE_NODES) × (most ≤ TYPE_NODES) × (p ≡ b * most)) → IsBoundAbove k p c us
bound_times k bs c b most p us bounds at some largest product small ws m v positive scaled above =
    let r = product small in
    let q : p ≡ b * most = r.2 in
    let n : 0 < most * m = grind arith in
    let s = bounds c b at r.0 ws (most * m) v (scaled most (largest r.1)) n above in
    let e : b * (most * m) ≡ (b * most) * m = grind arith in
    let f : (b * most) * m ≡ p * m = ap (λ x. x * m) (sym q) in
    omega (arith, s, e, f)

-- the larger of the size of a class type and of the bound above it
pub class_bound : (k : Classes) (c s a b : ℕ) (us : Tys) → s ≤ b → a ≤ b → (s ≤ TYPE_NODES → node_count (class c us) ≡ s) → IsBoundAbove k a c us → IsTypeBound k b (class c us)
class_bound k c s a b us ls la counted above small ts m most positive =
    let n = instance_size ts m most positive (class c us) in
    let e : node_count (class c us) ≡ s = counted (omega (arith, ls, small)) in
    let f : node_count (class c us) * m ≡ s * m = ap (λ x. x * m) e in
    let g = times_mono s b m ls in
    let h = times_mono a b m la in (
      omega (arith, n, f, g),
      λ v w. let r = above (omega (arith, la, small)) (instances ts us) m v positive (λ x y. instances_at_most ts m most positive us x y) w in omega (arith, r, h),
    )

-- what bounds each direct supertype of a class bounds what is above it
pub class_bounded : (k : Classes) (c b : ℕ) (i : ClassInfo) → class_at k c ≡ Some i → AreTypeBounds k b (direct_supertypes i) → IsBound k c b
class_bounded k c b i at bounds small ts m v most positive (direct _ j _ x u q r) =
    let s : x ≡ i = same_Some x i (sym q ∙ at) in
    (bounds j u (sym (ap (λ y. slice_get (direct_supertypes y) j) s) ∙ r) small ts m most positive).0
class_bounded k c b i at bounds small ts m v most positive (further _ j _ x u _ q r above) =
    let s : x ≡ i = same_Some x i (sym q ∙ at) in
    (bounds j u (sym (ap (λ y. slice_get (direct_supertypes y) j) s) ∙ r) small ts m most positive).1 v above

pub no_bounds : (k : Classes) → AreBounds k []
no_bounds k c b q = absurd (cc)

push_cases : (bs : List ℕ) (x c b : ℕ) → slice_get (bs ++ x ∷ []) c ≡ Some b → (slice_get bs c ≡ Some b) ⊎ ((c ≡ length bs) × (b ≡ x))
push_cases [] x zero b q = inr (refl, cc)
push_cases [] x (suc c) b q = absurd (cc)
push_cases (y ∷ bs) x zero b q = inl q
push_cases (y ∷ bs) x (suc c) b q = elim (push_cases bs x c b q) [ inl p ↦ inl p | inr p ↦ inr (ap suc p.0, p.1) ]

pub bounds_more : (k : Classes) (bs : List ℕ) (x : ℕ) (i : ClassInfo) → class_at k (length bs) ≡ Some i → AreBounds k bs → (AreBounds k bs → AreTypeBounds k x (direct_supertypes i)) → (n : ℕ) → length bs ≡ n → (cs : List ℕ) → cs ≡ bs ++ x ∷ []
    → record { bounds : AreBounds k cs; size : length cs ≡ n + 1 }
bounds_more k bs x i at bounds new n size cs q = record {
  bounds = transport (AreBounds k) (sym q) (λ c b r. case c b (push_cases bs x c b r));
  size = let e = ap length q ∙ length-append bs (x ∷ []) in omega (arith, e, size);
}
  where
    case : (c b : ℕ) → (slice_get bs c ≡ Some b) ⊎ ((c ≡ length bs) × (b ≡ x)) → IsBound k c b
    case c b (inl p) = bounds c b p
    case c b (inr p) = transport (λ z. IsBound k z b) (sym p.0) (transport (IsBound k (length bs)) (sym p.1) (class_bounded k (length bs) x i at (new bounds)))

-- a bound of more types
pub types_more : (k : Classes) (us : List TypeRef) (i a b p : ℕ) (x : TypeRef) → x ≡ get_or us i x → i < length us → p ≡ max a b → IsTypeBound k a (ty x) → ((j : ℕ) (u : TypeRef) → j < i → slice_get us j ≡ Some u → IsTypeBound k b (ty u))
    → (j : ℕ) (u : TypeRef) → j < i + 1 → slice_get us j ≡ Some u → IsTypeBound k p (ty u)
types_more k us i a b p x at l q here before j u below is = elim (cases_eq j i) [
  | inl e ↦
      let same : u ≡ x = same_Some u x (sym is ∙ ap (slice_get us) e ∙ slice_get_read us (length us) i x refl l at) in
      larger_bound k a p (ty u) (omega (arith, q)) (transport (λ z. IsTypeBound k a (ty z)) (sym same) here)
  | inr e ↦ larger_bound k b p (ty u) (omega (arith, q)) (before j u (omega (arith, below, e)) is)
]

-- a bound of a superclass, where there is one, and of interfaces
pub supertypes_bound : (k : Classes) (o : Option TypeRef) (us : List TypeRef) (a b p : ℕ) → p ≡ max a b → ((t : TypeRef) → o ≡ Some t → IsTypeBound k a (ty t)) → AreTypeBounds k b us → AreTypeBounds k p (with_superclass o us)
supertypes_bound k None us a b p q first later j u is = larger_bound k b p (ty u) (omega (arith, q)) (later j u is)
supertypes_bound k (Some t) us a b p q first later zero u is = let e : t ≡ u = cc in larger_bound k a p (ty u) (omega (arith, q)) (transport (λ z. IsTypeBound k a (ty z)) e (first t refl))
supertypes_bound k (Some t) us a b p q first later (suc j) u is = larger_bound k b p (ty u) (omega (arith, q)) (later j u is)

-- the largest of some arguments
pub most_more : (ts : List TypeRef) (i s m p : ℕ) (x : TypeRef) → x ≡ get_or ts i x → i < length ts → p ≡ max s m → (s ≤ TYPE_NODES → node_count (ty x) ≡ s)
    → ((n : ℕ) → m ≤ n → n ≤ TYPE_NODES → AreAtMost n (tys (drop i ts)) → AreAtMost n (tys ts)) → (n : ℕ) → p ≤ n → n ≤ TYPE_NODES → AreAtMost n (tys (drop (i + 1) ts)) → AreAtMost n (tys ts)
most_more ts i s m p x at l q counted before n pn small rest =
    let e = counted (omega (arith, q, pn, small)) in
    let d : drop i ts ≡ x ∷ drop (i + 1) ts = drop_more ts i x l ∙ ap (λ z. z ∷ drop (i + 1) ts) (sym at) in
    before n (omega (arith, q, pn)) small (transport (λ z. AreAtMost n (tys z)) (sym d) (omega (arith, e, q, pn), rest))

pub most_all : (ts : List TypeRef) (i m : ℕ) → length ts ≤ i → ((n : ℕ) → m ≤ n → n ≤ TYPE_NODES → AreAtMost n (tys (drop i ts)) → AreAtMost n (tys ts)) → m ≤ TYPE_NODES → AreAtMost m (tys ts)
most_all ts i m l seen small = seen m (omega arith) small (transport (λ z. AreAtMost m (tys z)) (sym (drop_all i ts l)) tt)

-- how many nodes types have
pub count_more : (ts : List TypeRef) (i s c p all : ℕ) (x : TypeRef) → x ≡ get_or ts i x → i < length ts → (s ≤ TYPE_NODES → node_count (ty x) ≡ s) → (p ≤ TYPE_NODES → p ≡ c + s) → (c ≤ TYPE_NODES → c + node_counts (tys (drop i ts)) ≡ all)
    → p ≤ TYPE_NODES → p + node_counts (tys (drop (i + 1) ts)) ≡ all
count_more ts i s c p all x at l counted sum before small =
    let q = sum small in
    let e = counted (omega (arith, q, small)) in
    let d : drop i ts ≡ x ∷ drop (i + 1) ts = drop_more ts i x l ∙ ap (λ z. z ∷ drop (i + 1) ts) (sym at) in
    let f = before (omega (arith, q, small)) in
    let g = ap (λ z. node_counts (tys z)) d in
    omega (arith, q, e, f, g)

pub count_all : (ts : List TypeRef) (i c all : ℕ) → length ts ≤ i → (c ≤ TYPE_NODES → c + node_counts (tys (drop i ts)) ≡ all) → c ≤ TYPE_NODES → all ≡ c
count_all ts i c all l before small = let f = before small in let g = ap (λ z. node_counts (tys z)) (drop_all i ts l) in omega (arith, f, g)
