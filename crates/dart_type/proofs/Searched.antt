-- The search over interned types: what is decided stays decided, and the measure falls.
use Rattle.std.proofs.Common.{◌≡◌, ℕ, zero, suc, ◌+◌, ◌*◌, ◌<◌, ◌≤◌, inl, inr, ◌↔◌, List, [], ◌∷◌, ◌++◌, length, drop, get_or, max, Bool, true, false, IsTrue, refl, sym, ap, ◌∙◌, arith, add-one, subst as transport}
use Rattle.std.specs.Global.{Vec}
use Rattle.dart_ir.specs.Ty.{Ty}
use Rattle.dart_ir.specs.Classes.{IsValid}
use Rattle.dart_ir.specs.declared.class.Classes.{Classes}
use Rattle.dart_type.specs.declared.intern.Node.{Node}
use Rattle.dart_type.specs.declared.clauses.Comparison.{Comparison}
use Rattle.dart_type.specs.declared.search.Answer.{Answer}
use Rattle.dart_type.specs.Relation.{Table, table_of, IsMoreSpecific}
use Rattle.dart_type.specs.Search.{goals, AnyWay, AllClauses, measure, largest, largest_of}
use Rattle.dart_type.specs.Intern.{read, types, IsBuilt, Grows}
use Rattle.dart_type.specs.Clauses.{goal_of, ways_of, clauses_of, AreListed, AllListed, GivesClauses}
use Rattle.dart_type.specs.Answers.{Holds, IsRight, AreRight, Decides, IsKept}
use Rattle.dart_type.proofs.Interned.{grows_refl, grows_trans}
use Rattle.dart_type.proofs.Assigned.{ways_kept, listed_at, clause_at}
use Rattle.dart_type.proofs.Paired.{drop_at}
use Rattle.dart_type.proofs.Ordered.{ordered}
use Rattle.dart_type.proofs.Decided.{clauses_sound, clauses_complete}
use Rattle.dart_type.proofs.Measure.{goals_fall}

not_true : false ≡ true → ⊥
not_true e = cc

-- kept answers

pub kept_says : (k : Table) (ns : List Node) (bs : List Answer) (t s : ℕ) (b : Bool) → AreRight k ns bs → IsKept bs t s b → IsTrue b ↔ IsMoreSpecific k (read (types ns) t) (read (types ns) s)
kept_says k ns [] t s b r h = absurd h
kept_says k ns (a ∷ bs) t s b r (inr h) = kept_says k ns bs t s b r.1 h
kept_says k ns (a ∷ bs) t s b r (inl h) =
    transport (λ x. IsTrue x ↔ IsMoreSpecific k (read (types ns) t) (read (types ns) s)) h.2
    (transport (λ x. IsTrue a.holds ↔ IsMoreSpecific k (read (types ns) x) (read (types ns) s)) h.0
    (transport (λ x. IsTrue a.holds ↔ IsMoreSpecific k (read (types ns) a.t) (read (types ns) x)) h.1 r.0.says))

one_kept : (k : Table) (a b : List Node) → Grows a b → (x : Answer) → IsRight k a x → IsRight k b x
one_kept k a b g x r = record {
  t_listed = let u = r.t_listed in let v = g.longer in omega (arith, u, v);
  s_listed = let u = r.s_listed in let v = g.longer in omega (arith, u, v);
  says =
      transport (λ y. IsTrue x.holds ↔ IsMoreSpecific k y (read (types b) x.s)) (sym (g.same x.t r.t_listed))
      (transport (λ y. IsTrue x.holds ↔ IsMoreSpecific k (read (types a) x.t) y) (sym (g.same x.s r.s_listed)) r.says);
}

pub right_kept : (k : Table) (a b : List Node) → Grows a b → (bs : List Answer) → AreRight k a bs → AreRight k b bs
right_kept k a b g [] r = tt
right_kept k a b g (x ∷ bs) r = (one_kept k a b g x r.0, right_kept k a b g bs r.1)

right_push : (k : Table) (ns : List Node) (bs : List Answer) (x : Answer) → AreRight k ns bs → IsRight k ns x → AreRight k ns (bs ++ x ∷ [])
right_push k ns [] x r h = (h, tt)
right_push k ns (b ∷ bs) x r h = (r.0, right_push k ns bs x r.1 h)

pub kept_decides : (k : Table) (ns : List Node) (bs : List Answer) (t s : ℕ) (b : Bool) → IsBuilt ns → AreRight k ns bs → IsKept bs t s b → Decides k ns ns bs b (IsMoreSpecific k (read (types ns) t) (read (types ns) s))
kept_decides k ns bs t s b h r i = record { grows = grows_refl ns h; right = r; says = kept_says k ns bs t s b r i }

iff_chain : (A B C : Type 0) → A ↔ B → B ↔ C → A ↔ C
iff_chain A B C p q = (λ a. q.0 (p.0 a), λ c. p.1 (q.1 c))

pub clauses_decide : (c : Classes) (a b d : List Node) (cs : List (Vec Comparison)) (bs new : List Answer) (t s : ℕ) (holds : Bool) → IsValid c → t < length a → s < length a
    → GivesClauses a b cs (goals (table_of c) (read (types a) t) (read (types a) s)) → Decides (table_of c) b d bs holds (AllClauses (Holds (table_of c)) (clauses_of (types b) cs))
    → new ≡ bs ++ (record { t = t; s = s; holds = holds }) ∷ [] → Decides (table_of c) a d new holds (IsMoreSpecific (table_of c) (read (types a) t) (read (types a) s))
clauses_decide c a b d cs bs new t s holds v lt ls g h e =
    let k = table_of c in
    let T = read (types a) t in
    let S = read (types a) s in
    let to_d = grows_trans a b d g.grows h.grows in
    let w : IsTrue holds ↔ AllClauses (Holds k) (goals k T S) = transport (λ z. IsTrue holds ↔ AllClauses (Holds k) z) g.are h.says in
    let says : IsTrue holds ↔ IsMoreSpecific k T S = iff_chain (IsTrue holds) (AllClauses (Holds k) (goals k T S)) (IsMoreSpecific k T S) w (clauses_sound k T S, clauses_complete k (length c.classes.items) (ordered c v) T S) in
    record {
      grows = to_d;
      right =
          transport (AreRight k d) (sym e)
          (right_push k d bs (record { t = t; s = s; holds = holds }) h.right
          (record {
            t_listed = let u = to_d.longer in omega (arith, lt, u);
            s_listed = let u = to_d.longer in omega (arith, ls, u);
            says =
                transport (λ y. IsTrue holds ↔ IsMoreSpecific k y (read (types d) s)) (sym (to_d.same t lt))
                (transport (λ y. IsTrue holds ↔ IsMoreSpecific k T y) (sym (to_d.same s ls)) says);
          }));
      says = says;
    }

-- one clause after the other

clause_first : (k : Table) (ts : List Ty) (cs : List (Vec Comparison)) (j : ℕ) (v : Vec Comparison) → j < length cs → v ≡ get_or cs j v → clauses_of ts (drop j cs) ≡ ways_of ts v.items ∷ clauses_of ts (drop (j + 1) cs)
clause_first k ts cs j v h e =
    ap (clauses_of ts) (drop_at cs j v h) ∙ ap (λ x. ways_of ts x.items ∷ clauses_of ts (drop (suc j) cs)) (sym e) ∙ ap (λ m. ways_of ts v.items ∷ clauses_of ts (drop m cs)) (sym (add-one j))

module _ (k : Table) (a b d : List Node) (cs : List (Vec Comparison)) (bs : List Answer) (j : ℕ) (v : Vec Comparison) (l : AllListed (length a) cs) (h : j < length cs) (e : v ≡ get_or cs j v) (g : Grows a b)
    (rest : AllClauses (Holds k) (clauses_of (types a) (drop j cs)) ↔ AllClauses (Holds k) (clauses_of (types a) cs)) where
  listed_v : AreListed (length a) v.items
  listed_v = transport (λ x. AreListed (length a) x.items) (sym e) (clause_at (length a) cs j v l h)

  same_v : ways_of (types b) v.items ≡ ways_of (types a) v.items
  same_v = ways_kept a b g v.items listed_v

  pub clause_fails : (holds : Bool) → holds ≡ false → Decides k b d bs holds (AnyWay (Holds k) (ways_of (types b) v.items)) → Decides k a d bs false (AllClauses (Holds k) (clauses_of (types a) cs))
  clause_fails holds f w = record {
    grows = grows_trans a b d g w.grows;
    right = w.right;
    says = (
      λ t. absurd (not_true t),
      λ all.
          let first = transport (AllClauses (Holds k)) (clause_first k (types a) cs j v h e) (rest.1 all) in
          transport IsTrue f (w.says.1 (transport (AnyWay (Holds k)) (sym same_v) first.0)),
    );
  }

  pub clause_holds : (holds : Bool) → holds ≡ true → Decides k b d bs holds (AnyWay (Holds k) (ways_of (types b) v.items)) → AllClauses (Holds k) (clauses_of (types a) (drop (j + 1) cs)) ↔ AllClauses (Holds k) (clauses_of (types a) cs)
  clause_holds holds f w =
      let any : AnyWay (Holds k) (ways_of (types a) v.items) = transport (AnyWay (Holds k)) same_v (w.says.0 f) in (
        λ r. rest.0 (transport (AllClauses (Holds k)) (sym (clause_first k (types a) cs j v h e)) (any, r)),
        λ all. (transport (AllClauses (Holds k)) (clause_first k (types a) cs j v h e) (rest.1 all)).1,
      )

way_first : (ts : List Ty) (ps : List Comparison) (j : ℕ) (dft : Comparison) → j < length ps → ways_of ts (drop j ps) ≡ goal_of ts (get_or ps j dft) ∷ ways_of ts (drop (j + 1) ps)
way_first ts ps j dft h = ap (ways_of ts) (drop_at ps j dft h) ∙ ap (λ m. goal_of ts (get_or ps j dft) ∷ ways_of ts (drop m ps)) (sym (add-one j))

module _ (k : Table) (a b d : List Node) (ps : List Comparison) (bs : List Answer) (j : ℕ) (dft : Comparison) (l : AreListed (length a) ps) (h : j < length ps) (g : Grows a b)
    (rest : AnyWay (Holds k) (ways_of (types a) (drop j ps)) ↔ AnyWay (Holds k) (ways_of (types a) ps)) where
  abbrev P : Comparison
  P = get_or ps j dft

  at : (P.t < length a) × (P.s < length a)
  at = listed_at (length a) ps j dft l h

  to_a : (holds : Bool) → IsTrue holds ↔ IsMoreSpecific k (read (types b) P.t) (read (types b) P.s) → IsTrue holds ↔ IsMoreSpecific k (read (types a) P.t) (read (types a) P.s)
  to_a holds w =
      transport (λ y. IsTrue holds ↔ IsMoreSpecific k y (read (types a) P.s)) (g.same P.t at.0)
      (transport (λ y. IsTrue holds ↔ IsMoreSpecific k (read (types b) P.t) y) (g.same P.s at.1) w)

  pub way_holds : (holds : Bool) → holds ≡ true → Decides k b d bs holds (IsMoreSpecific k (read (types b) P.t) (read (types b) P.s)) → Decides k a d bs true (AnyWay (Holds k) (ways_of (types a) ps))
  way_holds holds f w = record {
    grows = grows_trans a b d g w.grows;
    right = w.right;
    says = (λ t. rest.0 (transport (AnyWay (Holds k)) (sym (way_first (types a) ps j dft h)) (inl ((to_a holds w.says).0 f))), λ any. refl);
  }

  pub way_fails : (holds : Bool) → holds ≡ false → Decides k b d bs holds (IsMoreSpecific k (read (types b) P.t) (read (types b) P.s)) → AnyWay (Holds k) (ways_of (types a) (drop (j + 1) ps)) ↔ AnyWay (Holds k) (ways_of (types a) ps)
  way_fails holds f w = (
    λ r. rest.0 (transport (AnyWay (Holds k)) (sym (way_first (types a) ps j dft h)) (inr r)),
    λ any. elim (transport (AnyWay (Holds k)) (way_first (types a) ps j dft h) (rest.1 any)) [ inl p ↦ absurd (not_true (transport IsTrue f ((to_a holds w.says).1 p))) | inr r ↦ r ],
  )

  pub way_listed_t : P.t < length b
  way_listed_t = let u = at.0 in let v = g.longer in omega (arith, u, v)

  pub way_listed_s : P.s < length b
  way_listed_s = let u = at.1 in let v = g.longer in omega (arith, u, v)

-- measures

max_left : (a b : ℕ) → a ≤ max a b
max_left a b = omega arith

max_right : (a b c : ℕ) → c ≤ b → c ≤ max a b
max_right a b c h = omega (arith, h)

largest_at : (k : Table) (n : ℕ) (ts : List Ty) (ps : List Comparison) (j : ℕ) (d : Comparison) → j < length ps → measure k n (goal_of ts (get_or ps j d)) ≤ largest k n (ways_of ts ps)
largest_at k n ts [] j d h = absurd (omega (arith, h))
largest_at k n ts (p ∷ ps) zero d h = max_left (measure k n (goal_of ts p)) (largest k n (ways_of ts ps))
largest_at k n ts (p ∷ ps) (suc j) d h = let r = largest_at k n ts ps j d (omega (arith, h)) in max_right (measure k n (goal_of ts p)) (largest k n (ways_of ts ps)) (measure k n (goal_of ts (get_or ps j d))) r

largest_of_at : (k : Table) (n : ℕ) (ts : List Ty) (cs : List (Vec Comparison)) (j : ℕ) (d : Vec Comparison) → j < length cs → largest k n (ways_of ts (get_or cs j d).items) ≤ largest_of k n (clauses_of ts cs)
largest_of_at k n ts [] j d h = absurd (omega (arith, h))
largest_of_at k n ts (c ∷ cs) zero d h = max_left (largest k n (ways_of ts c.items)) (largest_of k n (clauses_of ts cs))
largest_of_at k n ts (c ∷ cs) (suc j) d h =
    let r = largest_of_at k n ts cs j d (omega (arith, h)) in max_right (largest k n (ways_of ts c.items)) (largest_of k n (clauses_of ts cs)) (largest k n (ways_of ts (get_or cs j d).items)) r

pub one_smaller : (k : Table) (n : ℕ) (a b : List Node) (cs : List (Vec Comparison)) (j : ℕ) (v : Vec Comparison) (vs : List Comparison) → AllListed (length a) cs → j < length cs → v ≡ get_or cs j v → Grows a b → vs ≡ v.items
    → 3 * largest k n (ways_of (types b) vs) + 1 < 3 * largest_of k n (clauses_of (types a) cs) + 2
one_smaller k n a b cs j v vs l h e g s =
    let listed = transport (λ x. AreListed (length a) x.items) (sym e) (clause_at (length a) cs j v l h) in
    let w : ways_of (types b) vs ≡ ways_of (types a) v.items = ap (ways_of (types b)) s ∙ ways_kept a b g v.items listed in
    let m : largest k n (ways_of (types a) v.items) ≤ largest_of k n (clauses_of (types a) cs) =
    transport (λ x. largest k n (ways_of (types a) x.items) ≤ largest_of k n (clauses_of (types a) cs)) (sym e) (largest_of_at k n (types a) cs j v h) in
    transport (λ x. 3 * largest k n x + 1 < 3 * largest_of k n (clauses_of (types a) cs) + 2) (sym w) (omega (arith, m))

pub way_smaller : (k : Table) (n : ℕ) (a b : List Node) (ps : List Comparison) (j : ℕ) (d : Comparison) → AreListed (length a) ps → j < length ps → Grows a b
    → 3 * measure k n (read (types b) (get_or ps j d).t, read (types b) (get_or ps j d).s) < 3 * largest k n (ways_of (types a) ps) + 1
way_smaller k n a b ps j d l h g =
    let at = listed_at (length a) ps j d l h in
    let m = largest_at k n (types a) ps j d h in
    transport (λ x. 3 * measure k n (x, read (types b) (get_or ps j d).s) < 3 * largest k n (ways_of (types a) ps) + 1) (sym (g.same (get_or ps j d).t at.0))
    (transport (λ x. 3 * measure k n (read (types a) (get_or ps j d).t, x) < 3 * largest k n (ways_of (types a) ps) + 1) (sym (g.same (get_or ps j d).s at.1)) (omega (arith, m)))

pub goals_smaller : (c : Classes) (b : List Node) (cs ds : List (Vec Comparison)) (t s : Ty) → IsValid c → ds ≡ cs → clauses_of (types b) cs ≡ goals (table_of c) t s
    → 3 * largest_of (table_of c) (length c.classes.items) (clauses_of (types b) ds) + 2 < 3 * measure (table_of c) (length c.classes.items) (t, s)
goals_smaller c b cs ds t s v e f =
    let k = table_of c in
    let n = length c.classes.items in
    let m = goals_fall k n (ordered c v) t s in
    transport (λ x. 3 * largest_of k n x + 2 < 3 * measure k n (t, s)) (sym (ap (clauses_of (types b)) e ∙ f)) (omega (arith, m))

-- a kept answer, found at the head of the rest
pub kept_here : (bs : List Answer) (j : ℕ) (d : Answer) (t s : ℕ) → j < length bs → (get_or bs j d).t ≡ t → (get_or bs j d).s ≡ s → IsKept (drop j bs) t s (get_or bs j d).holds
kept_here bs j d t s h e f = transport (λ x. IsKept x t s (get_or bs j d).holds) (sym (drop_at bs j d h)) (inl (e, f, refl))

pub kept_later : (bs : List Answer) (j t s : ℕ) (b : Bool) → j < length bs → IsKept (drop (j + 1) bs) t s b → IsKept (drop j bs) t s b
kept_later bs j t s b h k =
    let d : Answer = record { t = 0; s = 0; holds = false } in
    transport (λ x. IsKept x t s b) (sym (drop_at bs j d h)) (inr (transport (λ m. IsKept (drop m bs) t s b) (add-one j) k))
