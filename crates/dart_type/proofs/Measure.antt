-- The measure falls from a comparison to those of its clauses.
use Rattle.std.proofs.Common.{◌≡◌, ℕ, zero, suc, ◌+◌, ◌*◌, ◌<◌, ◌≤◌, List, [], ◌∷◌, ◌++◌, Bool, true, false, cond, nat_eq, nat_lt, nat_le, max, refl, ap, arith}
use Rattle.std.proofs.lemmas.Bool.{ltb-true, lt-ltb}
use Rattle.dart_ir.specs.Ty.{Ty, Tys, NamedTys, dynamic, bottom, void, class, parameter, function, nil, cons, unnamed, named}
use Rattle.dart_ir.specs.Classes.{count, IsPlain, ArePlain, IsEarlierClass}
use Rattle.dart_type.specs.Instance.{argument, instance, instances, node_count, node_counts, named_node_count}
use Rattle.dart_type.specs.Relation.{Table, In, first, later, floor, floors, named_floors, append}
use Rattle.dart_type.specs.Search.{Goal, above, each_below, facing, truth, assign, result_goals, positional_goals, named_ways, named_goals, goals, wide, wides, rank, measure, largest, largest_of}
use Rattle.dart_type.proofs.Transitive.{Edge, up, up_bound, up_function, up_calls}
use Rattle.dart_type.proofs.Ordered.{IsOrdered}
use Rattle.dart_type.proofs.Decided.{above_sound}
use Rattle.dart_type.proofs.Instances.{node_count_positive}

mutual
  count_floor : (t : Ty) → node_count (floor t) ≡ node_count t
  count_floor dynamic = refl
  count_floor bottom = refl
  count_floor void = refl
  count_floor (class c ts) = ap (λ m. 1 + m) (counts_floors ts)
  count_floor (parameter i) = refl
  count_floor (function r q o n) =
      let a = count_floor r in let b = counts_floors q in let c = counts_floors o in let d = named_count_floors n in
      omega (arith, a, b, c, d)

  counts_floors : (ts : Tys) → node_counts (floors ts) ≡ node_counts ts
  counts_floors nil = refl
  counts_floors (cons t ts) = let a = count_floor t in let b = counts_floors ts in omega (arith, a, b)

  named_count_floors : (ns : NamedTys) → named_node_count (named_floors ns) ≡ named_node_count ns
  named_count_floors unnamed = refl
  named_count_floors (named x t ts) = let a = count_floor t in let b = named_count_floors ts in omega (arith, a, b)

mutual
  wide_count : (t : Ty) → wide t ≤ node_count t
  wide_count dynamic = omega arith
  wide_count bottom = omega arith
  wide_count void = omega arith
  wide_count (class c ts) = let a = wides_counts ts in omega (arith, a)
  wide_count (parameter i) = omega arith
  wide_count (function r q o n) = omega arith

  wides_counts : (ts : Tys) → wides ts ≤ node_counts ts
  wides_counts nil = omega arith
  wides_counts (cons t ts) = let a = wide_count t in let b = wides_counts ts in omega (arith, a, b)

mutual
  wide_floor : (t : Ty) → wide (floor t) ≡ wide t
  wide_floor dynamic = refl
  wide_floor bottom = refl
  wide_floor void = refl
  wide_floor (class c ts) = wides_floors ts
  wide_floor (parameter i) = refl
  wide_floor (function r q o n) = count_floor (function r q o n)

  wides_floors : (ts : Tys) → wides (floors ts) ≡ wides ts
  wides_floors nil = refl
  wides_floors (cons t ts) = let a = wide_floor t in let b = wides_floors ts in omega (arith, a, b)

wide_argument : (ts : Tys) (i : ℕ) → wide (argument ts i) ≤ wides ts
wide_argument nil i = omega arith
wide_argument (cons t ts) zero = omega arith
wide_argument (cons t ts) (suc i) = let a = wide_argument ts i in omega (arith, a)

-- putting arguments into a type without function types makes no larger function type
mutual
  wide_instance : (ts : Tys) (x : Ty) → IsPlain x → wide (instance ts x) ≤ wides ts
  wide_instance ts dynamic h = omega arith
  wide_instance ts bottom h = omega arith
  wide_instance ts void h = omega arith
  wide_instance ts (class c us) h = wides_instances ts us h
  wide_instance ts (parameter i) h = wide_argument ts i
  wide_instance ts (function r q o n) h = absurd h

  wides_instances : (ts us : Tys) → ArePlain us → wides (instances ts us) ≤ wides ts
  wides_instances ts nil h = omega arith
  wides_instances ts (cons u us) h = let a = wide_instance ts u h.0 in let b = wides_instances ts us h.1 in omega (arith, a, b)

abbrev pub Each : (Goal → Type 0) → List Goal → Type 0
Each P [] = Unit {0}
Each P (g ∷ gs) = P g × Each P gs

abbrev pub EachOf : (Goal → Type 0) → List (List Goal) → Type 0
EachOf P [] = Unit {0}
EachOf P (c ∷ cs) = Each P c × EachOf P cs

each_join : (P : Goal → Type 0) (xs ys : List Goal) → Each P xs → Each P ys → Each P (xs ++ ys)
each_join P [] ys h i = i
each_join P (x ∷ xs) ys h i = (h.0, each_join P xs ys h.1 i)

of_join : (P : Goal → Type 0) (xs ys : List (List Goal)) → EachOf P xs → EachOf P ys → EachOf P (xs ++ ys)
of_join P [] ys h i = i
of_join P (x ∷ xs) ys h i = (h.0, of_join P xs ys h.1 i)

of_truth : (P : Goal → Type 0) (b : Bool) → EachOf P (truth b)
of_truth P true = tt
of_truth P false = (tt, tt)

suc_times : (a base : ℕ) → (suc a) * base ≡ a * base + base
suc_times a base = grind arith

times_mono : (a b base : ℕ) → a ≤ b → a * base ≤ b * base
times_mono a b base h = grind arith

-- a smaller first part outweighs any second part below the base
outweighs : (a b r s base : ℕ) → a < b → r < base → a * base + r < b * base + s
outweighs a b r s base h l =
    let m : (suc a) * base ≤ b * base = times_mono (suc a) b base (omega (arith, h)) in
    let e : (suc a) * base ≡ a * base + base = suc_times a base in
    omega (arith, m, e, l)

keeps : (a b r s base : ℕ) → a ≤ b → r < s → a * base + r < b * base + s
keeps a b r s base h l = let m = times_mono a b base h in omega (arith, m, l)

max_below : (a b m : ℕ) → a < m → b < m → max a b < m
max_below a b m h i = omega (arith, h, i)

above_base : (a base r : ℕ) → 1 * base ≤ a * base → 0 < base → 0 < a * base + r
above_base a base r h p = omega (arith, h, p)

cond_each : (P : Goal → Type 0) (b : Bool) (c : List Goal) → Each P c → Each P (cond b c [])
cond_each P true c h = h
cond_each P false c h = tt

each_of_in : (P : Goal → Type 0) (us : Tys) (s : Ty) → ((u : Ty) → In u us → P (u, s)) → Each P (each_below us s)
each_of_in P nil s h = tt
each_of_in P (cons u us) s h = (h u (first u us), each_of_in P us s (λ v i. h v (later v u us i)))

in_count : (t : Ty) (ts : Tys) → In t ts → node_count t ≤ node_counts ts
in_count t ts (first _ us) = omega arith
in_count t ts (later _ v us i) = let a = in_count t us i in omega (arith, a)

append_counts : (ts us : Tys) → node_counts (append ts us) ≡ node_counts ts + node_counts us
append_counts nil us = omega arith
append_counts (cons t ts) us = let a = append_counts ts us in omega (arith, a)

in_append_count : (t : Ty) (q o : Tys) → In t (append q o) → node_count t ≤ node_counts q + node_counts o
in_append_count t q o i = let a = in_count t (append q o) i in let b = append_counts q o in omega (arith, a, b)

module _ (k : Table) (n : ℕ) where
  abbrev base : ℕ
  base = n + k.function_class + 3

  abbrev Less : ℕ → Goal → Type 0
  Less m g = measure k n g < m

  rank_class : (c : ℕ) (b : Bool) → nat_lt c n ≡ b → cond b (c + 1) 0 ≤ n
  rank_class c true e = let a = ltb-true c n e in omega (arith, a)
  rank_class c false e = omega arith

  rank_most : (c : ℕ) (b : Bool) → cond b (c + 1) 0 ≤ c + 1
  rank_most c true = omega arith
  rank_most c false = omega arith

  rank_below : (t : Ty) → rank k n t < base
  rank_below dynamic = omega arith
  rank_below bottom = omega arith
  rank_below void = omega arith
  rank_below (class c ts) = let a = rank_class c (nat_lt c n) refl in omega (arith, a)
  rank_below (parameter i) = omega arith
  rank_below (function r q o m) = omega arith

  facing_small : (w z r : ℕ) (ts ss : Tys) (ways : List Goal) → wides ts ≤ w → node_counts ss < z → Each (Less ((w + z) * base + r)) ways → EachOf (Less ((w + z) * base + r)) (facing ts ss ways)
  facing_small w z r nil nil ways a b h = tt
  facing_small w z r nil (cons s ss) ways a b h = (h, tt)
  facing_small w z r (cons t ts) nil ways a b h = (h, tt)
  facing_small w z r (cons t ts) (cons s ss) ways a b h =
      ((outweighs (wide t + node_count s) (w + z) (rank k n t) r base (omega (arith, a, b)) (rank_below t), h), facing_small w z r ts ss ways (omega (arith, a)) (omega (arith, b)) h)

  assign_small : (f g r : ℕ) (t s : Ty) → node_count t < f → node_count s < g → Each (Less ((f + g) * base + r)) (assign t s)
  assign_small f g r t s a b =
      let c = wide_floor t in let d = wide_floor s in let e = wide_count t in let h = wide_count s in (
        outweighs (wide (floor t) + node_count s) (f + g) (rank k n (floor t)) r base (omega (arith, a, b, c, e)) (rank_below (floor t)),
        (
          outweighs (wide (floor s) + node_count t) (f + g) (rank k n (floor s)) r base (omega (arith, a, b, d, h)) (rank_below (floor s)),
          tt,
        ),
      )

  result_small : (f g r : ℕ) (t s : Ty) → node_count t < f → node_count s < g → EachOf (Less ((f + g) * base + r)) (result_goals t s)
  result_small f g r t void a b = tt
  result_small f g r t dynamic a b = (assign_small f g r t dynamic a b, tt)
  result_small f g r t bottom a b = (assign_small f g r t bottom a b, tt)
  result_small f g r t (class c ts) a b = (assign_small f g r t (class c ts) a b, tt)
  result_small f g r t (parameter i) a b = (assign_small f g r t (parameter i) a b, tt)
  result_small f g r t (function s q o m) a b = (assign_small f g r t (function s q o m) a b, tt)

  positional_small : (f g r : ℕ) (ts ss : Tys) → ((t : Ty) → In t ts → node_count t < f) → ((s : Ty) → In s ss → node_count s < g) → EachOf (Less ((f + g) * base + r)) (positional_goals ts ss)
  positional_small f g r ts nil a b = tt
  positional_small f g r nil (cons s ss) a b = (tt, tt)
  positional_small f g r (cons t ts) (cons s ss) a b =
      (assign_small f g r t s (a t (first t ts)) (b s (first s ss)), positional_small f g r ts ss (λ u i. a u (later u t ts i)) (λ u i. b u (later u s ss i)))

  ways_small : (f g r : ℕ) (ns : NamedTys) (x : ℕ) (v : Ty) → named_node_count ns < f → node_count v < g → Each (Less ((f + g) * base + r)) (named_ways ns x v)
  ways_small f g r unnamed x v a b = tt
  ways_small f g r (named y u us) x v a b =
      each_join (Less ((f + g) * base + r)) (cond (nat_eq y x) (assign u v) []) (named_ways us x v)
      (cond_each (Less ((f + g) * base + r)) (nat_eq y x) (assign u v) (assign_small f g r u v (omega (arith, a)) b))
      (ways_small f g r us x v (omega (arith, a)) b)

  named_small : (f g r : ℕ) (ns ms : NamedTys) → named_node_count ns < f → named_node_count ms < g → EachOf (Less ((f + g) * base + r)) (named_goals ns ms)
  named_small f g r ns unnamed a b = tt
  named_small f g r ns (named x v vs) a b = (ways_small f g r ns x v a (omega (arith, b)), named_small f g r ns vs a (omega (arith, b)))

  rule_small : (r s : Ty) (q p o e : Tys) (ns ms : NamedTys) → EachOf (Less (measure k n (function r q o ns, function s p e ms))) (goals k (function r q o ns) (function s p e ms))
  rule_small r s q p o e ns ms =
      let f = node_count (function r q o ns) in
      let g = node_count (function s p e ms) in
      let t = rank k n (function r q o ns) in
      let P = Less ((f + g) * base + t) in
      of_join P (result_goals r s) (truth (nat_le (count q) (count p)) ++ (positional_goals (append q o) (append p e) ++ named_goals ns ms)) (result_small f g t r s (omega arith) (omega arith))
      (of_join P (truth (nat_le (count q) (count p))) (positional_goals (append q o) (append p e) ++ named_goals ns ms) (of_truth P (nat_le (count q) (count p)))
      (of_join P (positional_goals (append q o) (append p e)) (named_goals ns ms)
      (positional_small f g t (append q o) (append p e) (λ u i. let a = in_append_count u q o i in omega (arith, a)) (λ u i. let a = in_append_count u p e i in omega (arith, a)))
      (named_small f g t ns ms (omega arith) (omega arith))))

  module _ (o : IsOrdered k n) where
    earlier_wide : (c : ℕ) (ts : Tys) (x : Ty) → IsEarlierClass c x → wide (instance ts x) ≤ wides ts
    earlier_wide c ts (class e us) h = wides_instances ts us h.1
    earlier_wide c ts dynamic h = absurd h
    earlier_wide c ts bottom h = absurd h
    earlier_wide c ts void h = absurd h
    earlier_wide c ts (parameter i) h = absurd h
    earlier_wide c ts (function r q p m) h = absurd h

    edge_wide : (t u : Ty) → Edge k t u → wide u ≤ wide t
    edge_wide t u (up c ts x i) = earlier_wide c ts x (o.supertypes c x i)
    edge_wide t u (up_bound j x i) = absurd (o.bounds j x i)
    edge_wide t u (up_function r q p m) = omega arith
    edge_wide t u (up_calls c ts e) = omega arith

    rank_at : (c : ℕ) → c < n → cond (nat_lt c n) (c + 1) 0 ≡ c + 1
    rank_at c h = ap (λ b. cond b (c + 1) 0) (lt-ltb c n h)

    earlier_rank : (c : ℕ) (ts : Tys) (x : Ty) → c < n → IsEarlierClass c x → rank k n (instance ts x) < cond (nat_lt c n) (c + 1) 0
    earlier_rank c ts (class e us) l h = let a = rank_at c l in let b = rank_most e (nat_lt e n) in let d = h.0 in omega (arith, a, b, d)
    earlier_rank c ts dynamic l h = absurd h
    earlier_rank c ts bottom l h = absurd h
    earlier_rank c ts void l h = absurd h
    earlier_rank c ts (parameter i) l h = absurd h
    earlier_rank c ts (function r q p m) l h = absurd h

    edge_rank : (t u : Ty) → Edge k t u → rank k n u < rank k n t
    edge_rank t u (up c ts x i) = earlier_rank c ts x (o.listed c x i) (o.supertypes c x i)
    edge_rank t u (up_bound j x i) = absurd (o.bounds j x i)
    edge_rank t u (up_function r q p m) = let a = rank_most k.function_class (nat_lt k.function_class n) in omega (arith, a)
    edge_rank t u (up_calls c ts e) =
        let a = rank_at c (o.call_listed c e) in let b = rank_most k.function_class (nat_lt k.function_class n) in let d = o.call c e in omega (arith, a, b, d)

    edge_small : (t u s : Ty) → Edge k t u → measure k n (u, s) < measure k n (t, s)
    edge_small t u s e =
        keeps (wide u + node_count s) (wide t + node_count s) (rank k n u) (rank k n t) base (let a = edge_wide t u e in omega (arith, a)) (edge_rank t u e)

    ways_fall : (t s : Ty) → Each (Less (measure k n (t, s))) (each_below (above k t) s)
    ways_fall t s = each_of_in (Less (measure k n (t, s))) (above k t) s (λ u i. edge_small t u s (above_sound k t u i))

    class_small : (c d : ℕ) (ts ss : Tys) (b : Bool) (ways : List Goal) → Each (Less (measure k n (class c ts, class d ss))) ways
        → EachOf (Less (measure k n (class c ts, class d ss))) (cond b (facing ts ss ways) (ways ∷ []))
    class_small c d ts ss true ways h = facing_small (wides ts) (1 + node_counts ss) (rank k n (class c ts)) ts ss ways (omega arith) (omega arith) h
    class_small c d ts ss false ways h = (h, tt)

    goals_small : (t s : Ty) → EachOf (Less (measure k n (t, s))) (goals k t s)
    goals_small t dynamic = tt
    goals_small bottom bottom = tt
    goals_small bottom void = tt
    goals_small bottom (parameter i) = tt
    goals_small bottom (class d ss) = tt
    goals_small bottom (function s p e m) = tt
    goals_small dynamic bottom = (tt, tt)
    goals_small dynamic void = (tt, tt)
    goals_small dynamic (parameter i) = (tt, tt)
    goals_small dynamic (class d ss) = (tt, tt)
    goals_small dynamic (function s p e m) = (tt, tt)
    goals_small void bottom = (tt, tt)
    goals_small void void = tt
    goals_small void (parameter i) = (tt, tt)
    goals_small void (class d ss) = (tt, tt)
    goals_small void (function s p e m) = (tt, tt)
    goals_small (parameter j) bottom = (tt, tt)
    goals_small (parameter j) void = (tt, tt)
    goals_small (parameter j) (parameter i) = of_truth (Less (measure k n (parameter j, parameter i))) (nat_eq j i)
    goals_small (parameter j) (class d ss) = (ways_fall (parameter j) (class d ss), tt)
    goals_small (parameter j) (function s p e m) = (tt, tt)
    goals_small (class c ts) bottom = (tt, tt)
    goals_small (class c ts) void = (tt, tt)
    goals_small (class c ts) (parameter i) = (tt, tt)
    goals_small (class c ts) (class d ss) = class_small c d ts ss (nat_eq c d) (each_below (above k (class c ts)) (class d ss)) (ways_fall (class c ts) (class d ss))
    goals_small (class c ts) (function s p e m) = of_truth (Less (measure k n (class c ts, function s p e m))) (k.has_call c)
    goals_small (function r q v z) bottom = (tt, tt)
    goals_small (function r q v z) void = (tt, tt)
    goals_small (function r q v z) (parameter i) = (tt, tt)
    goals_small (function r q v z) (class d ss) = (ways_fall (function r q v z) (class d ss), tt)
    goals_small (function r q v z) (function s p e m) = rule_small r s q p v e z m

    largest_small : (m : ℕ) (c : List Goal) → 0 < m → Each (Less m) c → largest k n c < m
    largest_small m [] p h = p
    largest_small m (g ∷ c) p h = let a = largest_small m c p h.1 in let b = h.0 in max_below (measure k n g) (largest k n c) m b a

    largest_of_small : (m : ℕ) (cs : List (List Goal)) → 0 < m → EachOf (Less m) cs → largest_of k n cs < m
    largest_of_small m [] p h = p
    largest_of_small m (c ∷ cs) p h = let a = largest_small m c p h.0 in let b = largest_of_small m cs p h.1 in max_below (largest k n c) (largest_of k n cs) m a b

    positive : (t s : Ty) → 0 < measure k n (t, s)
    positive t s =
        let a = node_count_positive s in
        let b = times_mono 1 (wide t + node_count s) base (omega (arith, a)) in
        above_base (wide t + node_count s) base (rank k n t) b (omega arith)

    -- The comparisons of the clauses have smaller measures.
    pub goals_fall : (t s : Ty) → largest_of k n (goals k t s) < measure k n (t, s)
    goals_fall t s = largest_of_small (measure k n (t, s)) (goals k t s) (positive t s) (goals_small t s)
