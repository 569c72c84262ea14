-- What is too large among the supertypes of a class.
use Rattle.std.proofs.Common.{◌≡◌, ℕ, zero, suc, ◌<◌, ◌≤◌, ◌+◌, ◌*◌, ◌++◌, ◌↔◌, inl, inr, ◌⊎◌, IsTrue, Bool, true, false, List, [], ◌∷◌, All, length, get_or, drop, Option, Some, None, slice_get, arith, refl, sym, ap, ◌∙◌, subst as transport}
use Rattle.std.proofs.lemmas.Option.{same_Some}
use Rattle.std.proofs.lemmas.List.{drop_more, drop_all}
use Rattle.dart_base.specs.declared.limit.TheConstants.{TYPE_NODES}
use Rattle.dart_ir.specs.Ty.{Ty, Tys, NamedTys, dynamic, bottom, void, class, parameter, function, nil, cons, unnamed, named, ty, tys}
use Rattle.dart_ir.specs.Classes.{IsEarlierClass, class_at, direct_supertypes, with_superclass}
use Rattle.dart_ir.specs.declared.types.TypeRef.{TypeRef}
use Rattle.dart_ir.specs.declared.class.ClassInfo.{ClassInfo}
use Rattle.dart_ir.specs.declared.class.Classes.{Classes}
use Rattle.dart_type.specs.Instance.{argument, instance, instances, named_instances, node_count, node_counts, named_node_count}
use Rattle.class_size.specs.Size.{IsAbove, direct, further, IsLarge, IsLargeAbove, IsTooLarge, itself, above}
use Rattle.class_size.specs.Bound.{AreAtMost, IsBoundAbove, HasLarge, rank}

true_false : (b : Bool) → b ≡ true → b ≡ false → ⊥
true_false b h k = cc

-- a type keeps its size where dynamic stands for each parameter
mutual
  pub bare_size : (t : Ty) → node_count (instance nil t) ≡ node_count t
  bare_size dynamic = refl
  bare_size bottom = refl
  bare_size void = refl
  bare_size (parameter i) = refl
  bare_size (class c us) = ap (λ n. 1 + n) (bare_sizes us)
  bare_size (function r q o n) =
      let a = bare_size r in
      let b = bare_sizes q in
      let d = bare_sizes o in
      let e = bare_named n in
      omega (arith, a, b, d, e)

  bare_sizes : (us : Tys) → node_counts (instances nil us) ≡ node_counts us
  bare_sizes nil = refl
  bare_sizes (cons u us) = let a = bare_size u in let b = bare_sizes us in omega (arith, a, b)

  bare_named : (us : NamedTys) → named_node_count (named_instances nil us) ≡ named_node_count us
  bare_named unnamed = refl
  bare_named (named x u us) = let a = bare_size u in let b = bare_named us in omega (arith, a, b)

-- a type that is not large itself is too large only by one above it
too_large_above : (k : Classes) (t : Ty) → node_count t ≤ TYPE_NODES → IsTooLarge k t → IsLargeAbove k t
too_large_above k t l (itself h) = absurd (omega (arith, l, h))
too_large_above k t l (above a) = a

either : (k : Classes) (t : Ty) (b : Bool) → node_count t ≤ TYPE_NODES → (IsTrue b ↔ IsLargeAbove k t) → IsTrue b ↔ IsTooLarge k t
either k t b l h = (λ q. above (h.0 q), λ w. h.1 (too_large_above k t l w))

-- the same of a type in which dynamic stands for each parameter
pub either_bare : (k : Classes) (t : Ty) (b : Bool) → node_count (instance nil t) ≤ TYPE_NODES → (IsTrue b ↔ IsLargeAbove k t) → IsTrue b ↔ IsTooLarge k t
either_bare k t b l h = either k t b (let e = bare_size t in omega (arith, l, e)) h

pub bare_large : (k : Classes) (t : Ty) → TYPE_NODES < node_count (instance nil t) → IsTrue true ↔ IsTooLarge k t
bare_large k t l = (λ q. itself (let e = bare_size t in omega (arith, l, e)), λ w. refl)

-- nothing stands above what is no class
module _ (k : Classes) where
  nothing_above : (t : Ty) → ((v : Ty) → IsAbove k t v → ⊥) → IsTrue false ↔ IsLargeAbove k t
  nothing_above t none = (λ h. absurd (true_false false h refl), λ w. absurd (none w.0 w.1))

  pub dynamic_above : IsTrue false ↔ IsLargeAbove k dynamic
  dynamic_above = nothing_above dynamic none
    where
      none : (v : Ty) → IsAbove k dynamic v → ⊥
      none v h = elim h [ ]

  pub bottom_above : IsTrue false ↔ IsLargeAbove k bottom
  bottom_above = nothing_above bottom none
    where
      none : (v : Ty) → IsAbove k bottom v → ⊥
      none v h = elim h [ ]

  pub void_above : IsTrue false ↔ IsLargeAbove k void
  void_above = nothing_above void none
    where
      none : (v : Ty) → IsAbove k void v → ⊥
      none v h = elim h [ ]

  pub parameter_above : (i : ℕ) → IsTrue false ↔ IsLargeAbove k (parameter i)
  parameter_above i = nothing_above (parameter i) none
    where
      none : (v : Ty) → IsAbove k (parameter i) v → ⊥
      none v h = elim h [ ]

  pub function_above : (r : Ty) (q o : Tys) (n : NamedTys) → IsTrue false ↔ IsLargeAbove k (function r q o n)
  function_above r q o n = nothing_above (function r q o n) none
    where
      none : (v : Ty) → IsAbove k (function r q o n) v → ⊥
      none v h = elim h [ ]

  unlisted : (c : ℕ) (ts : Tys) → class_at k c ≡ None → (v : Ty) → IsAbove k (class c ts) v → ⊥
  unlisted c ts q v (direct _ j _ i u at r) = cc
  unlisted c ts q v (further _ j _ i u _ at r a) = cc

  pub unlisted_above : (c : ℕ) (ts : Tys) → class_at k c ≡ None → IsTrue false ↔ IsLargeAbove k (class c ts)
  unlisted_above c ts q = nothing_above (class c ts) (unlisted c ts q)

  same_times : (ts : Tys) (n : ℕ) → AreAtMost n ts → AreAtMost (n * 1) ts
  same_times ts n h = let q : n ≡ n * 1 = omega arith in transport (λ x. AreAtMost x ts) q h

  -- what the bound tells
  pub bounded_above : (b c : ℕ) (ts : Tys) → IsBoundAbove k b c ts → b ≤ TYPE_NODES → IsTrue false ↔ IsLargeAbove k (class c ts)
  bounded_above b c ts bound l = (λ h. absurd (true_false false h refl), λ w. absurd (past w.0 w.1 w.2))
    where
      past : (v : Ty) → IsAbove k (class c ts) v → IsLarge v → ⊥
      past v a large = let s = bound l ts 1 v (omega arith) (same_times ts) a in omega (arith, s, large, l)

module _ (k : Classes) (ts : Tys) where
  large_at : (us : List TypeRef) (j : ℕ) (u : TypeRef) → slice_get us j ≡ Some u → IsTooLarge k (instance ts (ty u)) → HasLarge k ts us
  large_at [] j u q h = absurd (cc)
  large_at (x ∷ us) zero u q h = let e : u ≡ x = cc in inl (transport (λ y. IsTooLarge k (instance ts (ty y))) e h)
  large_at (x ∷ us) (suc j) u q h = inr (large_at us j u q h)

  step_above : (c : ℕ) (i : ClassInfo) (j : ℕ) (u : TypeRef) → class_at k c ≡ Some i → slice_get (direct_supertypes i) j ≡ Some u → IsTooLarge k (instance ts (ty u)) → IsLargeAbove k (class c ts)
  step_above c i j u at q (itself h) = (instance ts (ty u), direct c j ts i u at q, h)
  step_above c i j u at q (above a) = (a.0, further c j ts i u a.0 at q a.1, a.2)

  some_above : (c : ℕ) (i : ClassInfo) → class_at k c ≡ Some i → (us : List TypeRef) → ((j : ℕ) (u : TypeRef) → slice_get us j ≡ Some u → (n : ℕ) × (slice_get (direct_supertypes i) n ≡ Some u)) → HasLarge k ts us → IsLargeAbove k (class c ts)
  some_above c i at [] inside h = absurd h
  some_above c i at (u ∷ us) inside (inl h) = let n = inside 0 u refl in step_above c i n.0 u at n.1 h
  some_above c i at (u ∷ us) inside (inr h) = some_above c i at us (λ j x q. inside (suc j) x q) h

  pub to_above : (c : ℕ) (i : ClassInfo) → class_at k c ≡ Some i → HasLarge k ts (direct_supertypes i) → IsLargeAbove k (class c ts)
  to_above c i at h = some_above c i at (direct_supertypes i) (λ j u q. (j, q)) h

  pub from_above : (c : ℕ) (i : ClassInfo) → class_at k c ≡ Some i → IsLargeAbove k (class c ts) → HasLarge k ts (direct_supertypes i)
  from_above c i at w = case w.0 w.1 w.2
    where
      there : (j : ℕ) (x : ClassInfo) (u : TypeRef) → class_at k c ≡ Some x → slice_get (direct_supertypes x) j ≡ Some u → IsTooLarge k (instance ts (ty u)) → HasLarge k ts (direct_supertypes i)
      there j x u q r h = large_at (direct_supertypes i) j u (ap (λ y. slice_get (direct_supertypes y) j) (same_Some i x (sym at ∙ q)) ∙ r) h

      case : (v : Ty) → IsAbove k (class c ts) v → IsLarge v → HasLarge k ts (direct_supertypes i)
      case v (direct _ j _ x u q r) large = there j x u q r (itself large)
      case v (further _ j _ x u _ q r a) large = there j x u q r (above (v, a, large))

  pub front_large : (us vs : List TypeRef) → HasLarge k ts us → HasLarge k ts (us ++ vs)
  front_large [] vs h = absurd h
  front_large (u ∷ us) vs (inl h) = inl h
  front_large (u ∷ us) vs (inr h) = inr (front_large us vs h)

  pub behind_large : (us vs : List TypeRef) → HasLarge k ts vs → HasLarge k ts (us ++ vs)
  behind_large [] vs h = h
  behind_large (u ∷ us) vs h = inr (behind_large us vs h)

  pub parts_large : (us vs : List TypeRef) → HasLarge k ts (us ++ vs) → HasLarge k ts us ⊎ HasLarge k ts vs
  parts_large [] vs h = inr h
  parts_large (u ∷ us) vs (inl h) = inl (inl h)
  parts_large (u ∷ us) vs (inr h) = elim (parts_large us vs h) [ inl a ↦ inl (inr a) | inr a ↦ inr a ]

-- the types above a class: its superclass, and its interfaces
super_split : (o : Option TypeRef) (us : List TypeRef) → with_superclass o us ≡ with_superclass o [] ++ us
super_split None us = refl
super_split (Some t) us = refl

pub all_front : (P : TypeRef → Type 0) (o : Option TypeRef) (us : List TypeRef) → All P (with_superclass o us) → All P (with_superclass o [])
all_front P None us h n d l = absurd (omega (arith, l))
all_front P (Some t) us h zero d l = h zero d (omega arith)
all_front P (Some t) us h (suc n) d l = absurd (omega (arith, l))

pub all_behind : (P : TypeRef → Type 0) (o : Option TypeRef) (us : List TypeRef) → All P (with_superclass o us) → All P us
all_behind P None us h = h
all_behind P (Some t) us h = λ n d l. h (suc n) d (omega (arith, l))

module _ (k : Classes) (ts : Tys) (c : ℕ) (i : ClassInfo) (at : class_at k c ≡ Some i) (front : List TypeRef) (is : front ≡ with_superclass i.superclass []) where
  whole : HasLarge k ts (front ++ i.interfaces.items) → HasLarge k ts (direct_supertypes i)
  whole h = transport (HasLarge k ts) (ap (λ z. z ++ i.interfaces.items) is ∙ sym (super_split i.superclass i.interfaces.items)) h

  parts : HasLarge k ts (direct_supertypes i) → HasLarge k ts front ⊎ HasLarge k ts i.interfaces.items
  parts h = parts_large k ts front i.interfaces.items (transport (HasLarge k ts) (super_split i.superclass i.interfaces.items ∙ ap (λ z. z ++ i.interfaces.items) (sym is)) h)

  pub superclass_large : (b : Bool) → b ≡ true → (IsTrue b ↔ HasLarge k ts front) → IsTrue true ↔ IsLargeAbove k (class c ts)
  superclass_large b q h = (λ x. to_above k ts c i at (whole (front_large k ts front i.interfaces.items (h.0 q))), λ x. refl)

  pub interfaces_large : (a b : Bool) → a ≡ false → (IsTrue a ↔ HasLarge k ts front) → (us : List TypeRef) → us ≡ i.interfaces.items → (IsTrue b ↔ HasLarge k ts us) → IsTrue b ↔ IsLargeAbove k (class c ts)
  interfaces_large a b q h us e g = (
    λ x. to_above k ts c i at (whole (behind_large k ts front i.interfaces.items (transport (HasLarge k ts) e (g.0 x)))),
    λ w. elim (parts (from_above k ts c i at w)) [ inl x ↦ absurd (true_false a (h.1 x) q) | inr x ↦ g.1 (transport (HasLarge k ts) (sym e) x) ],
  )

-- the class of a supertype stays where arguments are put in
pub rank_below : (ts : Tys) (c : ℕ) (u : Ty) → IsEarlierClass c u → rank (instance ts u) < c
rank_below ts c (class e us) h = h.0
rank_below ts c dynamic h = absurd h
rank_below ts c bottom h = absurd h
rank_below ts c void h = absurd h
rank_below ts c (parameter i) h = absurd h
rank_below ts c (function r q o n) h = absurd h

-- some types, of which the first are looked at
module _ (k : Classes) (ts : Tys) (us : List TypeRef) (i : ℕ) (x : TypeRef) (is : x ≡ get_or us i x) (l : i < length us) (rest : HasLarge k ts (drop i us) ↔ HasLarge k ts us) where
  opened : drop i us ≡ x ∷ drop (i + 1) us
  opened = drop_more us i x l ∙ ap (λ y. y ∷ drop (i + 1) us) (sym is)

  found_large : IsTooLarge k (instance ts (ty x)) → IsTrue true ↔ HasLarge k ts us
  found_large h = (λ q. rest.0 (transport (HasLarge k ts) (sym opened) (inl h)), λ w. refl)

  pub one_large : TYPE_NODES < node_count (instance ts (ty x)) → IsTrue true ↔ HasLarge k ts us
  one_large h = found_large (itself h)

  pub one_below : (u : Ty) → u ≡ instance ts (ty x) → (b : Bool) → b ≡ true → (IsTrue b ↔ IsLargeAbove k u) → IsTrue true ↔ HasLarge k ts us
  one_below u e b q h = found_large (above (transport (IsLargeAbove k) e (h.0 q)))

  pub one_small : (u : Ty) → u ≡ instance ts (ty x) → node_count (instance ts (ty x)) ≤ TYPE_NODES → (b : Bool) → b ≡ false → (IsTrue b ↔ IsLargeAbove k u) → HasLarge k ts (drop (i + 1) us) ↔ HasLarge k ts us
  one_small u e n b q h = (λ w. rest.0 (transport (HasLarge k ts) (sym opened) (inr w)), λ w. case (transport (HasLarge k ts) opened (rest.1 w)))
    where
      case : HasLarge k ts (x ∷ drop (i + 1) us) → HasLarge k ts (drop (i + 1) us)
      case (inl a) = absurd (true_false b (h.1 (transport (IsLargeAbove k) (sym e) (too_large_above k (instance ts (ty x)) n a))) q)
      case (inr a) = a

pub none_large : (k : Classes) (ts : Tys) (us : List TypeRef) (i : ℕ) → length us ≤ i → (HasLarge k ts (drop i us) ↔ HasLarge k ts us) → IsTrue false ↔ HasLarge k ts us
none_large k ts us i l rest = (λ h. absurd (true_false false h refl), λ w. absurd (transport (HasLarge k ts) (drop_all i us l) (rest.1 w)))
