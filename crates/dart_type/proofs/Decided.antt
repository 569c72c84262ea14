-- The clauses of a comparison hold exactly where it is derived.
use Rattle.std.proofs.Common.{◌≡◌, ℕ, suc, ◌⊎◌, inl, inr, List, [], ◌∷◌, ◌++◌, Bool, true, false, cond, nat_eq, nat_le, refl, sym, ap, ◌∙◌, arith, subst as transport}
use Rattle.std.proofs.lemmas.Bool.{eqb-true, eq-eqb, leb-true, le-leb}
use Rattle.dart_ir.specs.Ty.{Ty, Tys, NamedTys, dynamic, bottom, void, class, parameter, function, nil, cons, unnamed, named}
use Rattle.dart_ir.specs.Classes.{count, IsEarlierClass}
use Rattle.dart_type.specs.Instance.{instance, instances}
use Rattle.dart_type.specs.Relation.{Table, In, first, later, HasName, first_name, later_name, floor, floors, named_floors, append, Derives, DeriveAll, IsAssignable, to, from, Meets, meets, MeetsResult, to_void, to_result, MeetAll, past_end, facing as faces, MeetNamed, no_name, one_name, same, from_bottom, to_dynamic, arguments, call_to_function, function_rule, right, no_more, one_more}
use Rattle.dart_type.specs.Search.{Goal, if_call, above, each_below, facing, truth, assign, result_goals, positional_goals, named_ways, named_goals, goals, AnyWay, AllClauses, HasCall}
use Rattle.dart_type.proofs.Transitive.{Edge, up, up_bound, up_function, up_calls, Reach, here, step, Le, Les, Calls, Fits, IsSuper, Good, complete, sounds, reach_sound}
use Rattle.dart_type.proofs.Ordered.{IsOrdered}

-- lists of types

in_left : (u : Ty) (ts us : Tys) → In u ts → In u (append ts us)
in_left u (cons t ts) us (first _ _) = first u (append ts us)
in_left u (cons t ts) us (later _ _ _ i) = later u t (append ts us) (in_left u ts us i)
in_left u nil us i = elim i [ ]

in_right : (u : Ty) (ts us : Tys) → In u us → In u (append ts us)
in_right u nil us i = i
in_right u (cons t ts) us i = later u t (append ts us) (in_right u ts us i)

in_either : (u : Ty) (ts us : Tys) → In u (append ts us) → In u ts ⊎ In u us
in_either u nil us i = inr i
in_either u (cons t ts) us (first _ _) = inl (first t ts)
in_either u (cons t ts) us (later _ _ _ i) = elim (in_either u ts us i) [ inl j ↦ inl (later u t ts j) | inr j ↦ inr j ]

in_instances : (ts us : Tys) (x : Ty) → In x us → In (instance ts x) (instances ts us)
in_instances ts us x (first _ vs) = first (instance ts x) (instances ts vs)
in_instances ts us x (later _ v vs i) = later (instance ts x) (instance ts v) (instances ts vs) (in_instances ts vs x i)

instance_of : (ts us : Tys) (u : Ty) → In u (instances ts us) → (x : Ty) × In x us × (instance ts x ≡ u)
instance_of ts nil u i = elim i [ ]
instance_of ts (cons x us) u (first _ _) = (x, first x us, refl)
instance_of ts (cons x us) u (later _ _ _ i) = let r = instance_of ts us u i in (r.0, later r.0 x us r.1, r.2)

-- lists of clauses

all_split : (P : Goal → Type 0) (xs ys : List (List Goal)) → AllClauses P (xs ++ ys) → AllClauses P xs × AllClauses P ys
all_split P [] ys h = (tt, h)
all_split P (x ∷ xs) ys h = let r = all_split P xs ys h.1 in ((h.0, r.0), r.1)

all_join : (P : Goal → Type 0) (xs ys : List (List Goal)) → AllClauses P xs → AllClauses P ys → AllClauses P (xs ++ ys)
all_join P [] ys h i = i
all_join P (x ∷ xs) ys h i = (h.0, all_join P xs ys h.1 i)

any_left : (P : Goal → Type 0) (xs ys : List Goal) → AnyWay P xs → AnyWay P (xs ++ ys)
any_left P [] ys h = absurd h
any_left P (x ∷ xs) ys (inl h) = inl h
any_left P (x ∷ xs) ys (inr h) = inr (any_left P xs ys h)

any_right : (P : Goal → Type 0) (xs ys : List Goal) → AnyWay P ys → AnyWay P (xs ++ ys)
any_right P [] ys h = h
any_right P (x ∷ xs) ys h = inr (any_right P xs ys h)

any_either : (P : Goal → Type 0) (xs ys : List Goal) → AnyWay P (xs ++ ys) → AnyWay P xs ⊎ AnyWay P ys
any_either P [] ys h = inr h
any_either P (x ∷ xs) ys (inl h) = inl (inl h)
any_either P (x ∷ xs) ys (inr h) = elim (any_either P xs ys h) [ inl p ↦ inl (inr p) | inr p ↦ inr p ]

is_true : (P : Goal → Type 0) (b : Bool) → AllClauses P (truth b) → b ≡ true
is_true P true h = refl
is_true P false h = absurd h.0

true_is : (P : Goal → Type 0) (b : Bool) → b ≡ true → AllClauses P (truth b)
true_is P true e = tt
true_is P false e = absurd (cc)

any_each : (P : Goal → Type 0) (us : Tys) (s u : Ty) → In u us → P (u, s) → AnyWay P (each_below us s)
any_each P us s u (first _ vs) p = inl p
any_each P us s u (later _ v vs i) p = inr (any_each P vs s u i p)

each_any : (P : Goal → Type 0) (us : Tys) (s : Ty) → AnyWay P (each_below us s) → (u : Ty) × In u us × P (u, s)
each_any P nil s h = absurd h
each_any P (cons u us) s (inl p) = (u, first u us, p)
each_any P (cons u us) s (inr h) = let r = each_any P us s h in (r.0, later r.0 u us r.1, r.2)

facing_ways : (P : Goal → Type 0) (ways : List Goal) → AnyWay P ways → (ts ss : Tys) → AllClauses P (facing ts ss ways)
facing_ways P ways w nil nil = tt
facing_ways P ways w nil (cons s ss) = (w, tt)
facing_ways P ways w (cons t ts) nil = (w, tt)
facing_ways P ways w (cons t ts) (cons s ss) = (inr w, facing_ways P ways w ts ss)

-- replacing dynamic twice is replacing it once
mutual
  pub floor_floor : (t : Ty) → floor (floor t) ≡ floor t
  floor_floor dynamic = refl
  floor_floor bottom = refl
  floor_floor void = refl
  floor_floor (class c ts) = ap (class c) (floors_floors ts)
  floor_floor (parameter i) = refl
  floor_floor (function r q o n) = let a = floor_floor r in let b = floors_floors q in let c = floors_floors o in let d = named_floors_floors n in cc

  floors_floors : (ts : Tys) → floors (floors ts) ≡ floors ts
  floors_floors nil = refl
  floors_floors (cons t ts) = let a = floor_floor t in let b = floors_floors ts in cc

  named_floors_floors : (ns : NamedTys) → named_floors (named_floors ns) ≡ named_floors ns
  named_floors_floors unnamed = refl
  named_floors_floors (named x t ts) = let a = floor_floor t in let b = named_floors_floors ts in cc

count_floors : (ts : Tys) → count (floors ts) ≡ count ts
count_floors nil = refl
count_floors (cons t ts) = ap suc (count_floors ts)

floors_append : (ts us : Tys) → floors (append ts us) ≡ append (floors ts) (floors us)
floors_append nil us = refl
floors_append (cons t ts) us = ap (cons (floor t)) (floors_append ts us)

floor_named : (x : ℕ) (u : Ty) (n : NamedTys) → HasName x u n → HasName x (floor u) (named_floors n)
floor_named x u n (first_name _ _ us) = first_name x (floor u) (named_floors us)
floor_named x u n (later_name _ y _ v us i) = later_name x y (floor u) (floor v) (named_floors us) (floor_named x u us i)

module _ (k : Table) where
  meet_append : (ts us vs : Tys) → MeetAll k (floors ts) ts → MeetAll k vs us → MeetAll k (append (floors ts) vs) (append ts us)
  meet_append nil us vs m l = l
  meet_append (cons t ts) us vs (faces _ _ _ _ a m) l = faces (floor t) t (append (floors ts) vs) (append ts us) a (meet_append ts us vs m l)

  -- A type with Bottom for dynamic is more specific than the type itself.
  mutual
    pub floor_below : (t : Ty) → Derives k true (floor t) t
    floor_below dynamic = to_dynamic true bottom
    floor_below bottom = same true bottom
    floor_below void = same true void
    floor_below (parameter i) = same true (parameter i)
    floor_below (class c ts) = arguments true c (floors ts) ts (floors_below ts)
    floor_below (function r q o n) =
        function_rule (floor (function r q o n)) (function r q o n)
        (meets (floor r) r (floors q) q (floors o) o (named_floors n) n (to_result (floor r) r (to (floor r) r (transport (λ u. Derives k true u r) (sym (floor_floor r)) (floor_below r))))
        (let e = count_floors q in omega (arith, e)) (meet_append q o (floors o) (all_below q) (all_below o))
        (named_below n n (λ x u i. floor_named x u n i)))

    floors_below : (ts : Tys) → DeriveAll k true (floors ts) ts
    floors_below nil = no_more true
    floors_below (cons t ts) = one_more true (floor t) t (floors ts) ts (floor_below t) (floors_below ts)

    all_below : (ts : Tys) → MeetAll k (floors ts) ts
    all_below nil = past_end nil
    all_below (cons t ts) = faces (floor t) t (floors ts) ts (to (floor t) t (transport (λ u. Derives k true u t) (sym (floor_floor t)) (floor_below t))) (all_below ts)

    named_below : (n m : NamedTys) → ((x : ℕ) (u : Ty) → HasName x u m → HasName x (floor u) (named_floors n)) → MeetNamed k (named_floors n) m
    named_below n unnamed h = no_name (named_floors n)
    named_below n (named x u us) h =
        one_name (named_floors n) x (floor u) u us (h x u (first_name x u us)) (to (floor u) u (transport (λ v. Derives k true v u) (sym (floor_floor u)) (floor_below u)))
        (named_below n us (λ y v i. h y v (later_name y x v u us i)))

  self_assignable : (t : Ty) → IsAssignable k t t
  self_assignable t = to t t (floor_below t)

  self_all : (ts : Tys) → MeetAll k ts ts
  self_all nil = past_end nil
  self_all (cons t ts) = faces t t ts ts (self_assignable t) (self_all ts)

  self_named : (n m : NamedTys) → ((x : ℕ) (u : Ty) → HasName x u m → HasName x u n) → MeetNamed k n m
  self_named n unnamed h = no_name n
  self_named n (named x u us) h = one_name n x u u us (h x u (first_name x u us)) (self_assignable u) (self_named n us (λ y v i. h y v (later_name y x v u us i)))

  -- A function type meets itself.
  pub meets_self : (r : Ty) (q o : Tys) (n : NamedTys) → Meets k (function r q o n) (function r q o n)
  meets_self r q o n = meets r r q q o o n n (to_result r r (self_assignable r)) (omega arith) (self_all (append q o)) (self_named n n (λ x u i. i))

  abbrev pub Holds : Goal → Type 0
  Holds g = Derives k true g.0 g.1

  assign_sound : (t s : Ty) → AnyWay Holds (assign t s) → IsAssignable k t s
  assign_sound t s (inl d) = to t s d
  assign_sound t s (inr (inl d)) = from t s d
  assign_sound t s (inr (inr h)) = absurd h

  assign_complete : (t s : Ty) → IsAssignable k t s → AnyWay Holds (assign t s)
  assign_complete t s (to _ _ d) = inl d
  assign_complete t s (from _ _ d) = inr (inl d)

  result_sound : (r s : Ty) → AllClauses Holds (result_goals r s) → MeetsResult k r s
  result_sound r void h = to_void r
  result_sound r dynamic h = to_result r dynamic (assign_sound r dynamic h.0)
  result_sound r bottom h = to_result r bottom (assign_sound r bottom h.0)
  result_sound r (class c ts) h = to_result r (class c ts) (assign_sound r (class c ts) h.0)
  result_sound r (parameter i) h = to_result r (parameter i) (assign_sound r (parameter i) h.0)
  result_sound r (function s q o n) h = to_result r (function s q o n) (assign_sound r (function s q o n) h.0)

  assigned_result : (r s : Ty) → IsAssignable k r s → AllClauses Holds (result_goals r s)
  assigned_result r void a = tt
  assigned_result r dynamic a = (assign_complete r dynamic a, tt)
  assigned_result r bottom a = (assign_complete r bottom a, tt)
  assigned_result r (class c ts) a = (assign_complete r (class c ts) a, tt)
  assigned_result r (parameter i) a = (assign_complete r (parameter i) a, tt)
  assigned_result r (function s q o n) a = (assign_complete r (function s q o n) a, tt)

  result_complete : (r s : Ty) → MeetsResult k r s → AllClauses Holds (result_goals r s)
  result_complete r s (to_void _) = tt
  result_complete r s (to_result _ _ a) = assigned_result r s a

  positional_sound : (ts ss : Tys) → AllClauses Holds (positional_goals ts ss) → MeetAll k ts ss
  positional_sound ts nil h = past_end ts
  positional_sound nil (cons s ss) h = absurd h.0
  positional_sound (cons t ts) (cons s ss) h = faces t s ts ss (assign_sound t s h.0) (positional_sound ts ss h.1)

  positional_complete : (ts ss : Tys) → MeetAll k ts ss → AllClauses Holds (positional_goals ts ss)
  positional_complete ts ss (past_end _) = tt
  positional_complete ts ss (faces t s us vs a m) = (assign_complete t s a, positional_complete us vs m)

  way_here : (x y : ℕ) (u v : Ty) (b : Bool) → nat_eq y x ≡ b → AnyWay Holds (cond b (assign u v) []) → (y ≡ x) × IsAssignable k u v
  way_here x y u v true e h = (eqb-true y x e, assign_sound u v h)
  way_here x y u v false e h = absurd h

  ways_sound : (n : NamedTys) (x : ℕ) (v : Ty) → AnyWay Holds (named_ways n x v) → (u : Ty) × HasName x u n × IsAssignable k u v
  ways_sound unnamed x v h = absurd h
  ways_sound (named y u us) x v h =
      elim (any_either Holds (cond (nat_eq y x) (assign u v) []) (named_ways us x v) h) [
        | inl p ↦ (let r = way_here x y u v (nat_eq y x) refl p in (u, transport (λ z. HasName z u (named y u us)) r.0 (first_name y u us), r.1))
        | inr p ↦ (let r = ways_sound us x v p in (r.0, later_name x y r.0 u us r.1, r.2))
      ]

  ways_complete : (n : NamedTys) (x : ℕ) (u v : Ty) → HasName x u n → IsAssignable k u v → AnyWay Holds (named_ways n x v)
  ways_complete n x u v (first_name _ _ us) a =
      any_left Holds (cond (nat_eq x x) (assign u v) []) (named_ways us x v)
      (transport (λ b. AnyWay Holds (cond b (assign u v) [])) (sym (eq-eqb x x refl)) (assign_complete u v a))
  ways_complete n x u v (later_name _ y _ w us i) a = any_right Holds (cond (nat_eq y x) (assign w v) []) (named_ways us x v) (ways_complete us x u v i a)

  named_sound : (n m : NamedTys) → AllClauses Holds (named_goals n m) → MeetNamed k n m
  named_sound n unnamed h = no_name n
  named_sound n (named x v vs) h = let r = ways_sound n x v h.0 in one_name n x r.0 v vs r.1 r.2 (named_sound n vs h.1)

  named_complete : (n m : NamedTys) → MeetNamed k n m → AllClauses Holds (named_goals n m)
  named_complete n m (no_name _) = tt
  named_complete n m (one_name _ x u v vs i a r) = (ways_complete n x u v i a, named_complete n vs r)

  rule_sound : (r s : Ty) (q p o e : Tys) (n m : NamedTys) → AllClauses Holds (goals k (function r q o n) (function s p e m)) → Meets k (function r q o n) (function s p e m)
  rule_sound r s q p o e n m h =
      let a = all_split Holds (result_goals r s) (truth (nat_le (count q) (count p)) ++ (positional_goals (append q o) (append p e) ++ named_goals n m)) h in
      let b = all_split Holds (truth (nat_le (count q) (count p))) (positional_goals (append q o) (append p e) ++ named_goals n m) a.1 in
      let c = all_split Holds (positional_goals (append q o) (append p e)) (named_goals n m) b.1 in
      meets r s q p o e n m (result_sound r s a.0) (leb-true (count q) (count p) (is_true Holds (nat_le (count q) (count p)) b.0)) (positional_sound (append q o) (append p e) c.0) (named_sound n m c.1)

  rule_complete : (r s : Ty) (q p o e : Tys) (n m : NamedTys) → Meets k (function r q o n) (function s p e m) → AllClauses Holds (goals k (function r q o n) (function s p e m))
  rule_complete r s q p o e n m (meets _ _ _ _ _ _ _ _ a b c d) =
      all_join Holds (result_goals r s) (truth (nat_le (count q) (count p)) ++ (positional_goals (append q o) (append p e) ++ named_goals n m)) (result_complete r s a)
      (all_join Holds (truth (nat_le (count q) (count p))) (positional_goals (append q o) (append p e) ++ named_goals n m) (true_is Holds (nat_le (count q) (count p)) (le-leb (count q) (count p) b))
      (all_join Holds (positional_goals (append q o) (append p e)) (named_goals n m) (positional_complete (append q o) (append p e) c) (named_complete n m d)))

  facing_sound : (ways : List Goal) (ts ss : Tys) → AllClauses Holds (facing ts ss ways) → DeriveAll k true ts ss ⊎ AnyWay Holds ways
  facing_sound ways nil nil h = inl (no_more true)
  facing_sound ways nil (cons s ss) h = inr h.0
  facing_sound ways (cons t ts) nil h = inr h.0
  facing_sound ways (cons t ts) (cons s ss) (inr w, h) = inr w
  facing_sound ways (cons t ts) (cons s ss) (inl d, h) = elim (facing_sound ways ts ss h) [ inl l ↦ inl (one_more true t s ts ss d l) | inr w ↦ inr w ]

  facing_complete : (ways : List Goal) (ts ss : Tys) → DeriveAll k true ts ss → AllClauses Holds (facing ts ss ways)
  facing_complete ways ts ss (no_more _) = tt
  facing_complete ways ts ss (one_more _ t s us vs d l) = (inl d, facing_complete ways us vs l)

  call_above : (b : Bool) (c : ℕ) (ts : Tys) (u : Ty) → k.has_call c ≡ b → In u (if_call b k.function_class) → Edge k (class c ts) u
  call_above true c ts u e (first _ _) = up_calls c ts e
  call_above true c ts u e (later _ _ _ i) = elim i [ ]
  call_above false c ts u e i = elim i [ ]

  class_above : (c : ℕ) (ts : Tys) (u : Ty) → In u (above k (class c ts)) → Edge k (class c ts) u
  class_above c ts u i =
      elim (in_either u (instances ts (k.supertypes c)) (if_call (k.has_call c) k.function_class) i) [
        | inl j ↦ (let r = instance_of ts (k.supertypes c) u j in transport (Edge k (class c ts)) r.2 (up c ts r.0 r.1))
        | inr j ↦ call_above (k.has_call c) c ts u refl j
      ]

  pub above_sound : (t u : Ty) → In u (above k t) → Edge k t u
  above_sound (class c ts) u i = class_above c ts u i
  above_sound (function r q o n) u (first _ _) = up_function r q o n
  above_sound (function r q o n) u (later _ _ _ i) = elim i [ ]
  above_sound (parameter j) u i = up_bound j u i
  above_sound dynamic u i = elim i [ ]
  above_sound bottom u i = elim i [ ]
  above_sound void u i = elim i [ ]

  call_in : (c : ℕ) (b : Bool) → b ≡ true → In (class k.function_class nil) (if_call b k.function_class)
  call_in c true e = first (class k.function_class nil) nil
  call_in c false e = absurd (cc)

  above_complete : (t u : Ty) → Edge k t u → In u (above k t)
  above_complete t u (up c ts x i) = in_left (instance ts x) (instances ts (k.supertypes c)) (if_call (k.has_call c) k.function_class) (in_instances ts (k.supertypes c) x i)
  above_complete t u (up_bound j x i) = i
  above_complete t u (up_function r q o n) = first (class k.function_class nil) nil
  above_complete t u (up_calls c ts e) = in_right (class k.function_class nil) (instances ts (k.supertypes c)) (if_call (k.has_call c) k.function_class) (call_in c (k.has_call c) e)

  way_sound : (t s : Ty) → AnyWay Holds (each_below (above k t) s) → Derives k true t s
  way_sound t s w =
      let r = each_any Holds (above k t) s w in
      right true t r.0 s (reach_sound k t r.0 (step t r.0 r.0 (above_sound t r.0 r.1) (here r.0))) r.2

  class_sound : (c d : ℕ) (ts ss : Tys) (b : Bool) → nat_eq c d ≡ b
      → AllClauses Holds (cond b (facing ts ss (each_below (above k (class c ts)) (class d ss))) (each_below (above k (class c ts)) (class d ss) ∷ [])) → Derives k true (class c ts) (class d ss)
  class_sound c d ts ss true e h =
      elim (facing_sound (each_below (above k (class c ts)) (class d ss)) ts ss h) [
        | inl l ↦ transport (λ x. Derives k true (class c ts) (class x ss)) (eqb-true c d e) (arguments true c ts ss l)
        | inr w ↦ way_sound (class c ts) (class d ss) w
      ]
  class_sound c d ts ss false e h = way_sound (class c ts) (class d ss) h.0

  -- Where the clauses hold, the comparison is derived.
  pub clauses_sound : (t s : Ty) → AllClauses Holds (goals k t s) → Derives k true t s
  clauses_sound t dynamic h = to_dynamic true t
  clauses_sound bottom bottom h = same true bottom
  clauses_sound bottom void h = from_bottom true void
  clauses_sound bottom (parameter i) h = from_bottom true (parameter i)
  clauses_sound bottom (class d ss) h = from_bottom true (class d ss)
  clauses_sound bottom (function s p e m) h = from_bottom true (function s p e m)
  clauses_sound dynamic bottom h = absurd h.0
  clauses_sound dynamic void h = absurd h.0
  clauses_sound dynamic (parameter i) h = absurd h.0
  clauses_sound dynamic (class d ss) h = absurd h.0
  clauses_sound dynamic (function s p e m) h = absurd h.0
  clauses_sound void bottom h = absurd h.0
  clauses_sound void void h = same true void
  clauses_sound void (parameter i) h = absurd h.0
  clauses_sound void (class d ss) h = absurd h.0
  clauses_sound void (function s p e m) h = absurd h.0
  clauses_sound (parameter j) bottom h = absurd h.0
  clauses_sound (parameter j) void h = absurd h.0
  clauses_sound (parameter j) (parameter i) h = transport (λ l. Derives k true (parameter j) (parameter l)) (eqb-true j i (is_true Holds (nat_eq j i) h)) (same true (parameter j))
  clauses_sound (parameter j) (class d ss) h = way_sound (parameter j) (class d ss) h.0
  clauses_sound (parameter j) (function s p e m) h = absurd h.0
  clauses_sound (class c ts) bottom h = absurd h.0
  clauses_sound (class c ts) void h = absurd h.0
  clauses_sound (class c ts) (parameter i) h = absurd h.0
  clauses_sound (class c ts) (class d ss) h = class_sound c d ts ss (nat_eq c d) refl h
  clauses_sound (class c ts) (function s p e m) h = call_to_function true c ts s p e m (is_true Holds (k.has_call c) h)
  clauses_sound (function r q o n) bottom h = absurd h.0
  clauses_sound (function r q o n) void h = absurd h.0
  clauses_sound (function r q o n) (parameter i) h = absurd h.0
  clauses_sound (function r q o n) (class d ss) h = way_sound (function r q o n) (class d ss) h.0
  clauses_sound (function r q o n) (function s p e m) h = function_rule (function r q o n) (function s p e m) (rule_sound r s q p o e n m h)

  super_class : (c : ℕ) (u : Ty) → IsEarlierClass c u → IsSuper u
  super_class c (class e ts) h = h.1
  super_class c dynamic h = h
  super_class c bottom h = h
  super_class c void h = h
  super_class c (parameter i) h = h
  super_class c (function r q o n) h = h

  module _ (n : ℕ) (o : IsOrdered k n) where
    good : Good k
    good = record { supertypes = λ c u i. super_class c u (o.supertypes c u i); bounds = λ i u j. absurd (o.bounds i u j) }

    calls_has : (t : Ty) → Calls k t → HasCall k t
    calls_has (class c ts) h = h
    calls_has dynamic h = h
    calls_has bottom h = h
    calls_has void h = h
    calls_has (parameter i) h = h
    calls_has (function r q p m) h = h

    has_instance : (c : ℕ) (ts : Tys) (x : Ty) → IsEarlierClass c x → HasCall k (instance ts x) → HasCall k x
    has_instance c ts (class e us) h a = a
    has_instance c ts dynamic h a = absurd h
    has_instance c ts bottom h a = absurd h
    has_instance c ts void h a = absurd h
    has_instance c ts (parameter i) h a = absurd h
    has_instance c ts (function r q p m) h a = absurd h

    call_down : (t u : Ty) → Edge k t u → HasCall k u → HasCall k t
    call_down t u (up c ts x i) a = o.inherited c x i (has_instance c ts x (o.supertypes c x i) a)
    call_down t u (up_bound j x i) a = absurd (o.bounds j x i)
    call_down t u (up_function r q p m) a = absurd (let h = o.call k.function_class a in omega (arith, h))
    call_down t u (up_calls c ts e) a = e

    calls_down : (t f : Ty) → Reach k t f → Calls k f → HasCall k t
    calls_down t f (here _) a = calls_has t a
    calls_down t f (step _ u _ e r) a = call_down t u e (calls_down u f r a)

    super_not_function : (c : ℕ) (ts : Tys) (x : Ty) (r : Ty) (q p : Tys) (m : NamedTys) → IsEarlierClass c x → instance ts x ≡ function r q p m → ⊥
    super_not_function c ts (class e us) r q p m h a = cc
    super_not_function c ts dynamic r q p m h a = h
    super_not_function c ts bottom r q p m h a = h
    super_not_function c ts void r q p m h a = h
    super_not_function c ts (parameter i) r q p m h a = h
    super_not_function c ts (function s v w z) r q p m h a = h

    edge_not_function : (t u r : Ty) (q p : Tys) (m : NamedTys) → Edge k t u → u ≡ function r q p m → ⊥
    edge_not_function t u r q p m (up c ts x i) a = super_not_function c ts x r q p m (o.supertypes c x i) a
    edge_not_function t u r q p m (up_bound j x i) a = o.bounds j x i
    edge_not_function t u r q p m (up_function s v w z) a = cc
    edge_not_function t u r q p m (up_calls c ts e) a = cc

    -- Only a function type itself reaches it.
    reach_function : (t f r : Ty) (q p : Tys) (m : NamedTys) → Reach k t f → f ≡ function r q p m → t ≡ f
    reach_function t f r q p m (here _) a = refl
    reach_function t f r q p m (step _ u _ e s) a = absurd (edge_not_function t u r q p m e (reach_function u f r q p m s a ∙ a))

    meets_first : (t f g : Ty) → Meets k f g → Reach k t f → t ≡ f
    meets_first t f g (meets r s q p v e m l a b c d) w = reach_function t (function r q v m) r q v m w refl

    fits_call : (t f r : Ty) (q p : Tys) (m : NamedTys) → Reach k t f → Fits k true f (function r q p m) → HasCall k t ⊎ ((t ≡ f) × Meets k f (function r q p m))
    fits_call t f r q p m s (inl a) = inl (calls_down t f s a)
    fits_call t f r q p m s (inr (inl e)) = inr (reach_function t f r q p m s e, transport (λ g. Meets k g (function r q p m)) (sym e) (meets_self r q p m))
    fits_call t f r q p m s (inr (inr w)) = inr (meets_first t f (function r q p m) w s, w)

    way_or_here : (t : Ty) (d : ℕ) (ss us : Tys) → Reach k t (class d us) → Les k true ss us → (t ≡ class d us) ⊎ AnyWay Holds (each_below (above k t) (class d ss))
    way_or_here t d ss us (here _) l = inl refl
    way_or_here t d ss us (step _ u _ e r) l =
        inr (any_each Holds (above k t) (class d ss) u (above_complete t u e)
        (right true u (class d us) (class d ss) (reach_sound k u (class d us) r) (arguments true d us ss (sounds k true ss us l))))

    class_here : (c d : ℕ) (ts ss us : Tys) → class c ts ≡ class d us → Les k true ss us → AllClauses Holds (goals k (class c ts) (class d ss))
    class_here c d ts ss us e l =
        let same_class : c ≡ d = cc in
        let same_args : us ≡ ts = cc in
        let ways = each_below (above k (class c ts)) (class d ss) in
        transport (λ b. AllClauses Holds (cond b (facing ts ss ways) (ways ∷ []))) (sym (eq-eqb c d same_class))
        (facing_complete ways ts ss (transport (λ vs. DeriveAll k true vs ss) same_args (sounds k true ss us l)))

    class_ways : (c d : ℕ) (ts ss : Tys) (b : Bool) (ways : List Goal) → AnyWay Holds ways → AllClauses Holds (cond b (facing ts ss ways) (ways ∷ []))
    class_ways c d ts ss true ways w = facing_ways Holds ways w ts ss
    class_ways c d ts ss false ways w = (w, tt)

    to_class_complete : (t : Ty) (d : ℕ) (ss : Tys) → Le k true (class d ss) t → AllClauses Holds (goals k t (class d ss))
    to_class_complete bottom d ss l = tt
    to_class_complete dynamic d ss (inl b) = absurd b
    to_class_complete dynamic d ss (inr (us, r, l)) = elim (way_or_here dynamic d ss us r l) [ inl e ↦ absurd (cc) | inr w ↦ absurd w ]
    to_class_complete void d ss (inl b) = absurd b
    to_class_complete void d ss (inr (us, r, l)) = elim (way_or_here void d ss us r l) [ inl e ↦ absurd (cc) | inr w ↦ absurd w ]
    to_class_complete (parameter i) d ss (inl b) = absurd b
    to_class_complete (parameter i) d ss (inr (us, r, l)) = elim (way_or_here (parameter i) d ss us r l) [ inl e ↦ absurd (cc) | inr w ↦ (w, tt) ]
    to_class_complete (function s q p m) d ss (inl b) = absurd b
    to_class_complete (function s q p m) d ss (inr (us, r, l)) = elim (way_or_here (function s q p m) d ss us r l) [ inl e ↦ absurd (cc) | inr w ↦ (w, tt) ]
    to_class_complete (class c ts) d ss (inl b) = absurd b
    to_class_complete (class c ts) d ss (inr (us, r, l)) =
        elim (way_or_here (class c ts) d ss us r l) [
          | inl e ↦ class_here c d ts ss us e l
          | inr w ↦ class_ways c d ts ss (nat_eq c d) (each_below (above k (class c ts)) (class d ss)) w
        ]

    not_meets : (t f g : Ty) → t ≡ f → Meets k f g → (r : Ty) × (q : Tys) × (p : Tys) × (m : NamedTys) × (t ≡ function r q p m)
    not_meets t f g e (meets r s q p v w m l a b c d) = (r, q, v, m, e)

    to_function_complete : (t s : Ty) (q p : Tys) (m : NamedTys) → Le k true (function s q p m) t → AllClauses Holds (goals k t (function s q p m))
    to_function_complete bottom s q p m l = tt
    to_function_complete dynamic s q p m (inl b) = absurd b
    to_function_complete dynamic s q p m (inr (f, r, w)) =
        elim (fits_call dynamic f s q p m r w) [ inl a ↦ absurd a | inr a ↦ (let z = not_meets dynamic f (function s q p m) a.0 a.1 in absurd (let y = z.4 in cc)) ]
    to_function_complete void s q p m (inl b) = absurd b
    to_function_complete void s q p m (inr (f, r, w)) =
        elim (fits_call void f s q p m r w) [ inl a ↦ absurd a | inr a ↦ (let z = not_meets void f (function s q p m) a.0 a.1 in absurd (let y = z.4 in cc)) ]
    to_function_complete (parameter i) s q p m (inl b) = absurd b
    to_function_complete (parameter i) s q p m (inr (f, r, w)) =
        elim (fits_call (parameter i) f s q p m r w) [ inl a ↦ absurd a | inr a ↦ (let z = not_meets (parameter i) f (function s q p m) a.0 a.1 in absurd (let y = z.4 in cc)) ]
    to_function_complete (class c ts) s q p m (inl b) = absurd b
    to_function_complete (class c ts) s q p m (inr (f, r, w)) =
        elim (fits_call (class c ts) f s q p m r w) [
          | inl a ↦ true_is Holds (k.has_call c) a
          | inr a ↦ (let z = not_meets (class c ts) f (function s q p m) a.0 a.1 in absurd (let y = z.4 in cc))
        ]
    to_function_complete (function r' v w z) s q p m (inl b) = absurd b
    to_function_complete (function r' v w z) s q p m (inr (f, r, x)) =
        elim (fits_call (function r' v w z) f s q p m r x) [
          | inl a ↦ absurd a
          | inr a ↦ rule_complete r' s v q w p z m (transport (λ g. Meets k g (function s q p m)) (sym a.0) a.1)
        ]

    found_clauses : (t s : Ty) → Le k true s t → AllClauses Holds (goals k t s)
    found_clauses t dynamic l = tt
    found_clauses bottom bottom l = tt
    found_clauses dynamic bottom l = absurd l
    found_clauses void bottom l = absurd l
    found_clauses (parameter j) bottom l = absurd l
    found_clauses (class c ts) bottom l = absurd l
    found_clauses (function r q p m) bottom l = absurd l
    found_clauses bottom void l = tt
    found_clauses void void l = tt
    found_clauses dynamic void l = absurd (elim l [ inl a ↦ a | inr a ↦ a ])
    found_clauses (parameter j) void l = absurd (elim l [ inl a ↦ a | inr a ↦ a ])
    found_clauses (class c ts) void l = absurd (elim l [ inl a ↦ a | inr a ↦ a ])
    found_clauses (function r q p m) void l = absurd (elim l [ inl a ↦ a | inr a ↦ a ])
    found_clauses bottom (parameter i) l = tt
    found_clauses (parameter j) (parameter i) (inl a) = absurd a
    found_clauses (parameter j) (parameter i) (inr e) = true_is Holds (nat_eq j i) (eq-eqb j i e)
    found_clauses dynamic (parameter i) l = absurd (elim l [ inl a ↦ a | inr a ↦ a ])
    found_clauses void (parameter i) l = absurd (elim l [ inl a ↦ a | inr a ↦ a ])
    found_clauses (class c ts) (parameter i) l = absurd (elim l [ inl a ↦ a | inr a ↦ a ])
    found_clauses (function r q p m) (parameter i) l = absurd (elim l [ inl a ↦ a | inr a ↦ a ])
    found_clauses t (class d ss) l = to_class_complete t d ss l
    found_clauses t (function s q p m) l = to_function_complete t s q p m l

    -- Where a comparison is derived, its clauses hold.
    pub clauses_complete : (t s : Ty) → Derives k true t s → AllClauses Holds (goals k t s)
    clauses_complete t s d = found_clauses t s (complete k good true t s d)
