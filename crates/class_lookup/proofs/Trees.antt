-- Trees to which nodes are added.
use Rattle.std.proofs.Common.{◌≡◌, ℕ, zero, suc, ◌+◌, ◌-◌, ◌<◌, ◌≤◌, ◌/◌, ◌%◌, ◌^◌, inl, inr, cond, List, [], ◌∷◌, ◌++◌, length, get_or, set, Option, Some, None, slice_get, arith, refl, sym, ap, ◌∙◌, subst as transport}
use Rattle.std.proofs.lemmas.Bool.{cases_eq, eq-eqb, ne_eqb}
use Rattle.class_lookup.specs.Tree.{slot_in, slot, held, rest_of, entry, IsListed, IsTree, Agree, Grows, IsPut}

abbrev Nodes : Type 0
Nodes = List (List (Option ℕ))

rest_suc : (n x : ℕ) → rest_of (suc n) x ≡ rest_of n x / 16
rest_suc zero x = refl
rest_suc (suc n) x = rest_suc n (x / 16)

pub rest_more : (n x : ℕ) → rest_of (n + 1) x ≡ rest_of n x / 16
rest_more n x = ap (λ m. rest_of m x) (let e : n + 1 ≡ suc n = omega arith in e) ∙ rest_suc n x

pub rest_eight : (x : ℕ) → x < 2 ^ 32 → rest_of 8 x ≡ 0
rest_eight x h = omega arith

-- a name without some digits is short where that has none left
pub rest_zero : (n : ℕ) → rest_of n 0 ≡ 0
rest_zero zero = refl
rest_zero (suc n) = rest_zero n

pub rest_longer : (n m x : ℕ) → rest_of n x ≡ 0 → n ≤ m → rest_of m x ≡ 0
rest_longer zero m x h l = ap (rest_of m) h ∙ rest_zero m
rest_longer (suc n) zero x h l = absurd (omega (arith, l))
rest_longer (suc n) (suc m) x h l = rest_longer n m (x / 16) h (omega (arith, l))

pub held_step : (ns : Nodes) (n m x : ℕ) (at : Option ℕ) → 0 < n → m ≡ n - 1 → held ns m (slot ns at (x % 16)) (x / 16) ≡ held ns n at x
held_step ns zero m x at l q = absurd (omega (arith, l))
held_step ns (suc n) m x at l q = ap (λ i. held ns i (slot ns at (x % 16)) (x / 16)) (let e : m ≡ n = omega (arith, q) in e)

pub rest_step : (n m x : ℕ) → 0 < n → m ≡ n - 1 → rest_of m (x / 16) ≡ rest_of n x
rest_step zero m x l q = absurd (omega (arith, l))
rest_step (suc n) m x l q = ap (λ i. rest_of i (x / 16)) (let e : m ≡ n = omega (arith, q) in e)

-- names that have the same digits are the same
pub agree_same : (n a b : ℕ) → Agree n a b → rest_of n a ≡ 0 → rest_of n b ≡ 0 → a ≡ b
agree_same zero a b h p q = p ∙ sym q
agree_same (suc n) a b h p q =
    let e : a / 16 ≡ b / 16 = agree_same n (a / 16) (b / 16) h.1 p q in
    let m = h.0 in
    omega (arith, e, m)

pub agree_self : (n a : ℕ) → Agree n a a
agree_self zero a = tt
agree_self (suc n) a = (refl, agree_self n (a / 16))

grows_slot : (old new : Nodes) (at : Option ℕ) (d : ℕ) → Grows old new → IsListed old at → slot new at d ≡ slot old at d
grows_slot old new None d g l = refl
grows_slot old new (Some i) d g l = ap (λ o. slot_in o d) (g.kept i l)

grows_listed : (old new : Nodes) (at : Option ℕ) → Grows old new → IsListed old at → IsListed new at
grows_listed old new None g l = tt
grows_listed old new (Some i) g l = let m = g.longer in omega (arith, l, m)

-- a tree stays where nodes are added
pub grows_tree : (old new : Nodes) → Grows old new → (n : ℕ) (at : Option ℕ) → IsTree old n at → IsTree new n at
grows_tree old new g zero at t = tt
grows_tree old new g (suc n) at t =
    (grows_listed old new at g t.0, λ d. transport (IsTree new n) (sym (grows_slot old new at d g t.0)) (grows_tree old new g n (slot old at d) (t.1 d)))

pub grows_held : (old new : Nodes) → Grows old new → (n : ℕ) (at : Option ℕ) (x : ℕ) → IsTree old n at → held new n at x ≡ held old n at x
grows_held old new g zero at x t = refl
grows_held old new g (suc n) at x t =
    ap (λ s. held new n s (x / 16)) (grows_slot old new at (x % 16) g t.0) ∙ grows_held old new g n (slot old at (x % 16)) (x / 16) (t.1 (x % 16))

pub grows_self : (ns : Nodes) → Grows ns ns
grows_self ns = record { longer = omega arith; kept = λ i l. refl }

pub grows_on : (a b d : Nodes) → Grows a b → Grows b d → Grows a d
grows_on a b d g h = record {
  longer = let m = g.longer in let n = h.longer in omega (arith, m, n);
  kept = λ i l. h.kept i (let m = g.longer in omega (arith, l, m)) ∙ g.kept i l;
}

get_front : {A : Type 0} (xs : List A) (x : A) (i : ℕ) → i < length xs → slice_get (xs ++ x ∷ []) i ≡ slice_get xs i
get_front [] x i l = absurd (omega (arith, l))
get_front (y ∷ xs) x zero l = refl
get_front (y ∷ xs) x (suc i) l = get_front xs x i (omega (arith, l))

get_last : {A : Type 0} (xs : List A) (x : A) → slice_get (xs ++ x ∷ []) (length xs) ≡ Some x
get_last [] x = refl
get_last (y ∷ xs) x = get_last xs x

length_push : {A : Type 0} (xs : List A) (x : A) → length (xs ++ x ∷ []) ≡ suc (length xs)
length_push [] x = refl
length_push (y ∷ xs) x = ap suc (length_push xs x)

push_grows : (ns : Nodes) (node : List (Option ℕ)) → Grows ns (ns ++ node ∷ [])
push_grows ns node = record {
  longer = let e = length_push ns node in omega (arith, e);
  kept = λ i l. get_front ns node i l;
}

set_here : (xs : List (Option ℕ)) (d : ℕ) (x : Option ℕ) → d < length xs → get_or (set xs d x) d None ≡ x
set_here [] d x l = absurd (omega (arith, l))
set_here (y ∷ xs) zero x l = refl
set_here (y ∷ xs) (suc d) x l = set_here xs d x (omega (arith, l))

set_there : (xs : List (Option ℕ)) (d e : ℕ) (x : Option ℕ) → (e ≡ d → ⊥) → get_or (set xs d x) e None ≡ get_or xs e None
set_there [] d e x h = refl
set_there (y ∷ xs) zero zero x h = absurd (h refl)
set_there (y ∷ xs) zero (suc e) x h = refl
set_there (y ∷ xs) (suc d) zero x h = refl
set_there (y ∷ xs) (suc d) (suc e) x h = set_there xs d e x (λ q. h (ap suc q))

pub put_zero : (ns : Nodes) (levels x v : ℕ) (at : Option ℕ) → levels ≡ 0 → IsPut ns ns levels at x v (Some v)
put_zero ns zero x v at q = record {
  grows = grows_self ns;
  tree = tt;
  here = λ o h. refl;
  elsewhere = λ o h. absurd (h tt);
}
put_zero ns (suc n) x v at q = absurd (omega (arith, q))

-- a node that differs from another one at one digit, below which there is a new tree
module _ (old mid : Nodes) (n x v : ℕ) (at below : Option ℕ) (tree : IsTree old (suc n) at) (p : IsPut old mid n (slot old at (x % 16)) (x / 16) v below) (node : List (Option ℕ)) (wide : length node ≡ 16) (same : (d : ℕ) → get_or node d None ≡ slot mid at d) where
  new : Nodes
  new = mid ++ set node (x % 16) below ∷ []

  made : Option ℕ
  made = Some (length mid)

  on : Grows mid (mid ++ set node (x % 16) below ∷ [])
  on = push_grows mid (set node (x % 16) below)

  slot_made : (d : ℕ) → slot (mid ++ set node (x % 16) below ∷ []) (Some (length mid)) d ≡ get_or (set node (x % 16) below) d None
  slot_made d = ap (λ o. slot_in o d) (get_last mid (set node (x % 16) below))

  small : x % 16 < length node
  small = let e = wide in omega (arith, e)

  slot_here : (d : ℕ) → d ≡ x % 16 → slot (mid ++ set node (x % 16) below ∷ []) (Some (length mid)) d ≡ below
  slot_here d q = slot_made d ∙ ap (λ i. get_or (set node (x % 16) below) i None) q ∙ set_here node (x % 16) below small

  slot_there : (d : ℕ) → (d ≡ x % 16 → ⊥) → slot (mid ++ set node (x % 16) below ∷ []) (Some (length mid)) d ≡ slot old at d
  slot_there d q = slot_made d ∙ set_there node (x % 16) d below q ∙ same d ∙ grows_slot old mid at d p.grows tree.0

  tree_below : (d : ℕ) → IsTree (mid ++ set node (x % 16) below ∷ []) n (slot (mid ++ set node (x % 16) below ∷ []) (Some (length mid)) d)
  tree_below d = elim (cases_eq d (x % 16)) [
    | inl q ↦ transport (IsTree (mid ++ set node (x % 16) below ∷ []) n) (sym (slot_here d q)) (grows_tree mid _ on n below p.tree)
    | inr q ↦ transport (IsTree (mid ++ set node (x % 16) below ∷ []) n) (sym (slot_there d q)) (grows_tree old _ (grows_on old mid _ p.grows on) n (slot old at d) (tree.1 d))
  ]

  held_here : (o : ℕ) → o % 16 ≡ x % 16 → held (mid ++ set node (x % 16) below ∷ []) (suc n) (Some (length mid)) o ≡ held mid n below (o / 16)
  held_here o q = ap (λ s. held (mid ++ set node (x % 16) below ∷ []) n s (o / 16)) (slot_here (o % 16) q) ∙ grows_held mid _ on n below (o / 16) p.tree

  held_there : (o : ℕ) → (o % 16 ≡ x % 16 → ⊥) → held (mid ++ set node (x % 16) below ∷ []) (suc n) (Some (length mid)) o ≡ held old (suc n) at o
  held_there o q =
      ap (λ s. held (mid ++ set node (x % 16) below ∷ []) n s (o / 16)) (slot_there (o % 16) q)
      ∙ grows_held old _ (grows_on old mid _ p.grows on) n (slot old at (o % 16)) (o / 16) (tree.1 (o % 16))

  elsewhere_by : (o : ℕ) → (Agree (suc n) o x → ⊥) → held (mid ++ set node (x % 16) below ∷ []) (suc n) (Some (length mid)) o ≡ held old (suc n) at o
  elsewhere_by o h = elim (cases_eq (o % 16) (x % 16)) [
    | inl q ↦ held_here o q ∙ p.elsewhere (o / 16) (λ a. h (q, a)) ∙ ap (λ d. held old n (slot old at d) (o / 16)) (sym q)
    | inr q ↦ held_there o q
  ]

  pub put_more : IsPut old (mid ++ set node (x % 16) below ∷ []) (suc n) at x v (Some (length mid))
  put_more = record {
    grows = grows_on old mid _ p.grows on;
    tree = (let e = length_push mid (set node (x % 16) below) in omega (arith, e), tree_below);
    here = λ o h. held_here o h.0 ∙ p.here (o / 16) h.1;
    elsewhere = elsewhere_by;
  }

pub put_at : (old mid after : Nodes) (levels m x v : ℕ) (at under below made : Option ℕ) (node changed : List (Option ℕ)) → 0 < levels → m ≡ levels - 1 → IsTree old levels at → under ≡ slot old at (x % 16)
    → IsPut old mid m under (x / 16) v below → length node ≡ 16 → ((d : ℕ) → get_or node d None ≡ slot mid at d) → changed ≡ set node (x % 16) below
    → after ≡ mid ++ changed ∷ [] → made ≡ Some (length mid) → IsPut old after levels at x v made
put_at old mid after zero m x v at under below made node changed l q tree u p wide same c a e = absurd (omega (arith, l))
put_at old mid after (suc n) m x v at under below made node changed l q tree u p wide same c a e =
    let s : m ≡ n = omega (arith, q) in
    let p' : IsPut old mid n (slot old at (x % 16)) (x / 16) v below = transport (λ w. IsPut old mid n w (x / 16) v below) u (transport (λ i. IsPut old mid i under (x / 16) v below) s p) in
    transport (λ w. IsPut old after (suc n) at x v w) (sym e)
    (transport (λ w. IsPut old w (suc n) at x v (Some (length mid))) (sym (a ∙ ap (λ w. mid ++ w ∷ []) c)) (put_more old mid n x v at below tree p' node wide same))

pub tree_under : (ns : Nodes) (levels m x : ℕ) (at under : Option ℕ) → 0 < levels → m ≡ levels - 1 → IsTree ns levels at → under ≡ slot ns at (x % 16) → IsTree ns m under
tree_under ns zero m x at under l q tree u = absurd (omega (arith, l))
tree_under ns (suc n) m x at under l q tree u =
    let s : m ≡ n = omega (arith, q) in
    transport (λ i. IsTree ns i under) (sym s) (transport (IsTree ns n) (sym u) (tree.1 (x % 16)))

-- what the loop has come to where no level is left
pub entry_found : (ns : Nodes) (levels left x rest : ℕ) (root at : Option ℕ) → left ≡ 0 → held ns left at rest ≡ held ns levels root x → rest_of left rest ≡ rest_of levels x → rest ≡ 0 → at ≡ entry ns levels root x
entry_found ns levels zero x rest root at q h r z = h ∙ sym (ap (λ b. cond b (held ns levels root x) None) (eq-eqb (rest_of levels x) 0 (sym r ∙ z)))
entry_found ns levels (suc n) x rest root at q h r z = absurd (omega (arith, q))

pub entry_none : (ns : Nodes) (levels left x rest : ℕ) (root : Option ℕ) → left ≡ 0 → rest_of left rest ≡ rest_of levels x → (rest ≡ 0 → ⊥) → None ≡ entry ns levels root x
entry_none ns levels zero x rest root q r z = sym (ap (λ b. cond b (held ns levels root x) None) (ne_eqb (rest_of levels x) 0 (λ e. z (r ∙ e))))
entry_none ns levels (suc n) x rest root q r z = absurd (omega (arith, q))
