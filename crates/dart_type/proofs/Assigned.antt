-- Comparisons that make pairs assignable, over the numbers of interned types.
use Rattle.std.proofs.Common.{◌≡◌, ℕ, zero, suc, ◌+◌, ◌<◌, ◌≤◌, List, [], ◌∷◌, ◌++◌, length, take, get_or, refl, sym, ap, ◌∙◌, arith, subst as transport}
use Rattle.std.specs.Global.{Vec}
use Rattle.std.proofs.lemmas.List.{map-append}
use Rattle.dart_ir.specs.Ty.{Ty}
use Rattle.dart_type.specs.declared.intern.Node.{Node}
use Rattle.dart_type.specs.declared.clauses.Comparison.{Comparison}
use Rattle.dart_type.specs.Relation.{floor}
use Rattle.dart_type.specs.Search.{Goal, assign}
use Rattle.dart_type.specs.Intern.{read, types, Grows, Gives}
use Rattle.dart_type.specs.Clauses.{goal_of, ways_of, clauses_of, AreListed, AllListed, assign_ways, assign_clauses, GivesWays, GivesClauses}
use Rattle.dart_type.proofs.Interned.{grows_trans, map_take_more}
use Rattle.dart_type.proofs.Floored.{any_default}

pub listed_at : (n : ℕ) (ps : List Comparison) (j : ℕ) (d : Comparison) → AreListed n ps → j < length ps → ((get_or ps j d).t < n) × ((get_or ps j d).s < n)
listed_at n [] j d h l = absurd (omega (arith, l))
listed_at n (p ∷ ps) zero d h l = h.0
listed_at n (p ∷ ps) (suc j) d h l = listed_at n ps j d h.1 (omega (arith, l))

pub clause_at : (n : ℕ) (cs : List (Vec Comparison)) (j : ℕ) (d : Vec Comparison) → AllListed n cs → j < length cs → AreListed n (get_or cs j d).items
clause_at n [] j d h l = absurd (omega (arith, l))
clause_at n (c ∷ cs) zero d h l = h.0
clause_at n (c ∷ cs) (suc j) d h l = clause_at n cs j d h.1 (omega (arith, l))

pub listed_more : (n m : ℕ) → n ≤ m → (ps : List Comparison) → AreListed n ps → AreListed m ps
listed_more n m h [] l = tt
listed_more n m h (p ∷ ps) l = ((let a = l.0.0 in omega (arith, a, h), let a = l.0.1 in omega (arith, a, h)), listed_more n m h ps l.1)

pub all_listed_more : (n m : ℕ) → n ≤ m → (cs : List (Vec Comparison)) → AllListed n cs → AllListed m cs
all_listed_more n m h [] l = tt
all_listed_more n m h (c ∷ cs) l = (listed_more n m h c.items l.0, all_listed_more n m h cs l.1)

pub listed_push : (n : ℕ) (ps : List Comparison) (p : Comparison) → AreListed n ps → p.t < n → p.s < n → AreListed n (ps ++ p ∷ [])
listed_push n [] p l h i = ((h, i), tt)
listed_push n (q ∷ ps) p l h i = (l.0, listed_push n ps p l.1 h i)

all_push : (n : ℕ) (cs : List (Vec Comparison)) (v : Vec Comparison) → AllListed n cs → AreListed n v.items → AllListed n (cs ++ v ∷ [])
all_push n [] v h l = (l, tt)
all_push n (c ∷ cs) v h l = (h.0, all_push n cs v h.1 l)

pub pair_is : (a b c d : Ty) → a ≡ b → c ≡ d → let g : Goal = (a, c) in let h : Goal = (b, d) in g ≡ h
pair_is a b c d e f = ap (λ x. (x, c)) e ∙ ap (λ y. (b, y)) f

cons_is : {X : Type 0} (a b : X) (cs ds : List X) → a ≡ b → cs ≡ ds → a ∷ cs ≡ b ∷ ds
cons_is a b c d e f = cc

-- comparisons keep their meaning when there are more nodes
pub ways_kept : (a b : List Node) → Grows a b → (ps : List Comparison) → AreListed (length a) ps → ways_of (types b) ps ≡ ways_of (types a) ps
ways_kept a b g [] l = refl
ways_kept a b g (p ∷ ps) l =
    cons_is (goal_of (types b) p) (goal_of (types a) p) (ways_of (types b) ps) (ways_of (types a) ps)
    (pair_is (read (types b) p.t) (read (types a) p.t) (read (types b) p.s) (read (types a) p.s) (g.same p.t l.0.0) (g.same p.s l.0.1)) (ways_kept a b g ps l.1)

pub clauses_kept : (a b : List Node) → Grows a b → (cs : List (Vec Comparison)) → AllListed (length a) cs → clauses_of (types b) cs ≡ clauses_of (types a) cs
clauses_kept a b g [] l = refl
clauses_kept a b g (c ∷ cs) l = cons_is (ways_of (types b) c.items) (ways_of (types a) c.items) (clauses_of (types b) cs) (clauses_of (types a) cs) (ways_kept a b g c.items l.0) (clauses_kept a b g cs l.1)

assign_ways_push : (gs : List Goal) (g : Goal) → assign_ways (gs ++ g ∷ []) ≡ (assign_ways gs ++ (floor g.0, g.1) ∷ []) ++ (floor g.1, g.0) ∷ []
assign_ways_push [] g = refl
assign_ways_push (h ∷ gs) g = ap (λ z. assign h.0 h.1 ++ z) (assign_ways_push gs g)

assign_clauses_push : (cs : List (List Goal)) (c : List Goal) → assign_clauses (cs ++ c ∷ []) ≡ assign_clauses cs ++ assign_ways c ∷ []
assign_clauses_push [] c = refl
assign_clauses_push (d ∷ cs) c = ap (λ z. assign_ways d ∷ z) (assign_clauses_push cs c)

push_is : {X : Type 0} (a b : List X) (x y : X) → a ≡ b → x ≡ y → a ++ x ∷ [] ≡ b ++ y ∷ []
push_is a b x y e f = cc

module _ (a b c d : List Node) (ways ps : List Comparison) (j t s : ℕ) (dft : Comparison) (l : AreListed (length a) ps) (h : j < length ps)
    (g : GivesWays a b ways (assign_ways (ways_of (types a) (take j ps)))) (gt : Gives b c t (floor (read (types b) (get_or ps j dft).t))) (gs : Gives c d s (floor (read (types c) (get_or ps j dft).s))) where
  abbrev P : Comparison
  P = get_or ps j dft

  at : (P.t < length a) × (P.s < length a)
  at = listed_at (length a) ps j dft l h

  a_to_c : Grows a c
  a_to_c = grows_trans a b c g.grows gt.grows

  a_to_d : Grows a d
  a_to_d = grows_trans a c d a_to_c gs.grows

  b_to_d : Grows b d
  b_to_d = grows_trans b c d gt.grows gs.grows

  pub t_listed : P.t < length b
  t_listed = let x = at.0 in let y = g.grows.longer in omega (arith, x, y)

  abbrev new_ways : List Comparison
  new_ways = (ways ++ (record { t = t; s = P.s }) ∷ []) ++ (record { t = s; s = P.t }) ∷ []

  pub assigned_more : GivesWays a d new_ways (assign_ways (ways_of (types a) (take (j + 1) ps)))
  assigned_more = record {
    grows = a_to_d;
    listed =
        let to_d = a_to_d.longer in let x = at.0 in let y = at.1 in let u = gt.listed in let v = gs.grows.longer in
        listed_push (length d) (ways ++ (record { t = t; s = P.s }) ∷ []) (record { t = s; s = P.t })
        (listed_push (length d) ways (record { t = t; s = P.s }) (listed_more (length b) (length d) b_to_d.longer ways g.listed) (omega (arith, u, v)) (omega (arith, y, to_d)))
        gs.listed (omega (arith, x, to_d));
    are =
        let D = types d in
        map-append (goal_of D) (ways ++ (record { t = t; s = P.s }) ∷ []) ((record { t = s; s = P.t }) ∷ [])
        ∙ push_is (ways_of D (ways ++ (record { t = t; s = P.s }) ∷ [])) (assign_ways (ways_of (types a) (take j ps)) ++ (floor (read (types a) P.t), read (types a) P.s) ∷ []) (read D s, read D P.t) (floor (read (types a) P.s), read (types a) P.t)
        (map-append (goal_of D) ways ((record { t = t; s = P.s }) ∷ [])
        ∙ push_is (ways_of D ways) (assign_ways (ways_of (types a) (take j ps))) (read D t, read D P.s) (floor (read (types a) P.t), read (types a) P.s)
        (ways_kept b d b_to_d ways g.listed ∙ g.are)
        (pair_is (read D t) (floor (read (types a) P.t)) (read D P.s) (read (types a) P.s) (gs.grows.same t gt.listed ∙ gt.shows ∙ ap floor (g.grows.same P.t at.0)) (a_to_d.same P.s at.1)))
        (pair_is (read D s) (floor (read (types a) P.s)) (read D P.t) (read (types a) P.t) (gs.shows ∙ ap floor (a_to_c.same P.s at.1)) (a_to_d.same P.t at.0))
        ∙ sym (assign_ways_push (ways_of (types a) (take j ps)) (read (types a) P.t, read (types a) P.s))
        ∙ sym (ap assign_ways (map_take_more (goal_of (types a)) ps j P h (any_default ps j dft P h)));
  }

pub second_listed : (a b c : List Node) (ps : List Comparison) (j t : ℕ) (dft : Comparison) (x : Ty) → AreListed (length a) ps → j < length ps → Grows a b → Gives b c t x → (get_or ps j dft).s < length c
second_listed a b c ps j t dft x l h g k = let u = (listed_at (length a) ps j dft l h).1 in let v = g.longer in let w = k.grows.longer in omega (arith, u, v, w)

pub clause_listed : (a b : List Node) (cs : List (Vec Comparison)) (j : ℕ) (v : Vec Comparison) → AllListed (length a) cs → j < length cs → v ≡ get_or cs j v → Grows a b → AreListed (length b) v.items
clause_listed a b cs j v l h e g = listed_more (length a) (length b) g.longer v.items (transport (λ x. AreListed (length a) x.items) (sym e) (clause_at (length a) cs j v l h))

pub clauses_more : (a b c : List Node) (made cs : List (Vec Comparison)) (j : ℕ) (v w : Vec Comparison) → AllListed (length a) cs → j < length cs → v ≡ get_or cs j v
    → GivesClauses a b made (assign_clauses (clauses_of (types a) (take j cs))) → GivesWays b c w.items (assign_ways (ways_of (types b) v.items))
    → GivesClauses a c (made ++ w ∷ []) (assign_clauses (clauses_of (types a) (take (j + 1) cs)))
clauses_more a b c made cs j v w l h e g k = record {
  grows = grows_trans a b c g.grows k.grows;
  listed = all_push (length c) made w (all_listed_more (length b) (length c) k.grows.longer made g.listed) k.listed;
  are =
      let lv : AreListed (length a) v.items = transport (λ x. AreListed (length a) x.items) (sym e) (clause_at (length a) cs j v l h) in
      map-append (λ (x : Vec Comparison). ways_of (types c) x.items) made (w ∷ [])
      ∙ push_is (clauses_of (types c) made) (assign_clauses (clauses_of (types a) (take j cs))) (ways_of (types c) w.items) (assign_ways (ways_of (types a) v.items))
      (clauses_kept b c k.grows made g.listed ∙ g.are) (k.are ∙ ap assign_ways (ways_kept a b g.grows v.items lv))
      ∙ sym (assign_clauses_push (clauses_of (types a) (take j cs)) (ways_of (types a) v.items))
      ∙ sym (ap assign_clauses (map_take_more (λ (x : Vec Comparison). ways_of (types a) x.items) cs j v h e));
}

pub none_ways : (a : List Node) → Grows a a → GivesWays a a [] []
none_ways a g = record { grows = g; listed = tt; are = refl }
