-- Indexes to which classes are added, and what they find.
use Rattle.std.proofs.Common.{◌≡◌, ℕ, zero, suc, ◌+◌, ◌<◌, ◌≤◌, ◌==◌, ◌/◌, ◌&&◌, ◌⊎◌, inl, inr, false, cond, List, [], ◌∷◌, ◌++◌, length, length-append, Option, Some, None, option_map, find, slice_get, arith, refl, sym, ap, ◌∙◌, subst as transport}
use Rattle.std.proofs.lemmas.Bool.{ne_eqb}
use Rattle.std.proofs.lemmas.Option.{slice_get_past}
use Rattle.std.specs.Option.{option_or}
use Rattle.dart_base.specs.declared.name.Name.{Name}
use Rattle.dart_ir.specs.Classes.{IsValid, class_at, member_at}
use Rattle.dart_ir.specs.declared.number.MemberId.{MemberId}
use Rattle.dart_ir.specs.declared.class.Role.{Role}
use Rattle.dart_ir.specs.declared.class.Role.TheVariants.{Method, Getter, Setter}
use Rattle.dart_ir.specs.declared.class.ClassInfo.{ClassInfo}
use Rattle.dart_ir.specs.declared.class.MemberInfo.{MemberInfo}
use Rattle.dart_ir.specs.declared.class.Classes.{Classes}
use Rattle.dart_type.specs.Member.{superclass_number, superclass_in, ends, same_role, is_declaration, declares, members_in, members_along, IsFirstMember}
use Rattle.dart_type.proofs.Chain.{first_here, first_above, earlier}
use Rattle.class_lookup.specs.declared.index.Roots.{Roots}
use Rattle.class_lookup.specs.declared.index.Index.{Index}
use Rattle.class_lookup.specs.Tree.{held, rest_of, IsTree}
use Rattle.class_lookup.specs.Index.{root, no_roots, roots_in, inherited_roots, HasTrees, member_id, member_in, AreNames, IsIndexed, IsIndex, IsAdded}
use Rattle.class_lookup.proofs.Trees.{rest_zero, grows_tree, grows_held}

abbrev Nodes : Type 0
Nodes = List (List (Option ℕ))

held_none : (ns : Nodes) (n x : ℕ) → held ns n None x ≡ None
held_none ns zero x = refl
held_none ns (suc n) x = held_none ns n (x / 16)

tree_none : (ns : Nodes) (n : ℕ) → IsTree ns n None
tree_none ns zero = tt
tree_none ns (suc n) = (tt, λ d. tree_none ns n)

no_root : (role : Role) → root no_roots role ≡ None
no_root Method = refl
no_root Getter = refl
no_root Setter = refl

no_trees : (ns : Nodes) (n : ℕ) → HasTrees ns n no_roots
no_trees ns n role = transport (IsTree ns n) (sym (no_root role)) (tree_none ns n)

no_member : (ns : Nodes) (n : ℕ) (name : Name) (role : Role) → member_in ns n no_roots name role ≡ None
no_member ns n name role = ap (λ r. option_map member_id (held ns n r name.0)) (no_root role) ∙ ap (option_map member_id) (held_none ns n name.0)

-- the trees that a class inherits
pub inherited_trees : (k : Classes) (ns : Nodes) (rs : List Roots) (levels : ℕ) → IsIndexed k ns rs levels → (s : Option ℕ) → HasTrees ns levels (inherited_roots rs s)
inherited_trees k ns rs levels x None = no_trees ns levels
inherited_trees k ns rs levels x (Some c) = case (slice_get rs c) refl
  where
    case : (o : Option Roots) → slice_get rs c ≡ o → HasTrees ns levels (roots_in o)
    case None q = no_trees ns levels
    case (Some r) q = x.trees c r q

pub indexed_none : (k : Classes) (ns : Nodes) (levels : ℕ) → IsIndexed k ns [] levels
indexed_none k ns levels = record { trees = λ c r q. absurd (cc); finds = λ c r name role q s. absurd (cc) }

push_cases : (rs : List Roots) (r : Roots) (c : ℕ) (x : Roots) → slice_get (rs ++ r ∷ []) c ≡ Some x → (slice_get rs c ≡ Some x) ⊎ ((c ≡ length rs) × (x ≡ r))
push_cases [] r zero x q = inr (refl, cc)
push_cases [] r (suc c) x q = absurd (cc)
push_cases (y ∷ rs) r zero x q = inl q
push_cases (y ∷ rs) r (suc c) x q = elim (push_cases rs r c x q) [ inl p ↦ inl p | inr p ↦ inr (ap suc p.0, p.1) ]

some_root : (rs : List Roots) (c : ℕ) → c < length rs → (r : Roots) × (slice_get rs c ≡ Some r)
some_root [] c l = absurd (omega (arith, l))
some_root (r ∷ rs) zero l = (r, refl)
some_root (r ∷ rs) (suc c) l = some_root rs c (omega (arith, l))

-- one more class
module _ (k : Classes) (valid : IsValid k) (old new : Nodes) (rs : List Roots) (levels : ℕ) (x : IsIndexed k old rs levels) (i : ClassInfo) (at : class_at k (length rs) ≡ Some i) (ms : List MemberId) (is : ms ≡ i.members.items) (below made : Roots) (from : below ≡ inherited_roots rs (superclass_number i.superclass)) (a : IsAdded k old new levels ms below made) where
  first_of : (name : Name) (role : Role) (o : Option MemberId) → find (declares k name role) i.members.items ≡ o → rest_of levels name.0 ≡ 0 → (s : Option ℕ) → superclass_number i.superclass ≡ s → IsFirstMember k (length rs) name role (option_or o (member_in old levels (inherited_roots rs s) name role))
  first_of name role (Some m) q short s p = first_here k valid (length rs) i name role m at q
  first_of name role None q short None p = first_above k valid (length rs) i name role None (member_in old levels no_roots name role) at p q (no_member old levels name role)
  first_of name role None q short (Some e) p =
      let l = earlier k valid (length rs) e (ap superclass_in at ∙ p) in
      let r = some_root rs e l in
      first_above k valid (length rs) i name role (Some (record { 0 = e })) (member_in old levels (inherited_roots rs (Some e)) name role) at p q
      (transport (λ z. IsFirstMember k e name role (member_in old levels z name role)) (ap roots_in (sym r.1)) (x.finds e r.0 name role r.1 short))

  finds_more : (c : ℕ) (r : Roots) (name : Name) (role : Role) → (slice_get rs c ≡ Some r) ⊎ ((c ≡ length rs) × (r ≡ made)) → rest_of levels name.0 ≡ 0 → IsFirstMember k c name role (member_in new levels r name role)
  finds_more c r name role (inl q) short = transport (IsFirstMember k c name role) (ap (option_map member_id) (sym (grows_held old new a.grows levels (root r role) name.0 (x.trees c r q role)))) (x.finds c r name role q short)
  finds_more c r name role (inr q) short =
      transport (λ z. IsFirstMember k z name role (member_in new levels r name role)) (sym q.0)
      (transport (λ z. IsFirstMember k (length rs) name role (member_in new levels z name role)) (sym q.1)
      (transport (IsFirstMember k (length rs) name role) (sym (a.finds name role short))
      (transport (λ z. IsFirstMember k (length rs) name role (option_or (find (declares k name role) z) (member_in old levels below name role))) (sym is)
      (transport (λ z. IsFirstMember k (length rs) name role (option_or (find (declares k name role) i.members.items) (member_in old levels z name role))) (sym from)
      (first_of name role (find (declares k name role) i.members.items) refl short (superclass_number i.superclass) refl)))))

  trees_more : (c : ℕ) (r : Roots) → (slice_get rs c ≡ Some r) ⊎ ((c ≡ length rs) × (r ≡ made)) → HasTrees new levels r
  trees_more c r (inl q) role = grows_tree old new a.grows levels (root r role) (x.trees c r q role)
  trees_more c r (inr q) role = transport (λ z. IsTree new levels (root z role)) (sym q.1) (a.trees role)

  pub indexed_more : IsIndexed k new (rs ++ made ∷ []) levels
  indexed_more = record {
    trees = λ c r q. trees_more c r (push_cases rs made c r q);
    finds = λ c r name role q short. finds_more c r name role (push_cases rs made c r q) short;
  }

-- a name that is longer than all of members' is no member's
module _ (k : Classes) (levels : ℕ) (names : AreNames k.members.items levels) (name : Name) (role : Role) (long : rest_of levels name.0 ≡ 0 → ⊥) where
  not_declared : (m : MemberId) (o : Option MemberInfo) → member_at k m.0 ≡ o → is_declaration o name role ≡ false
  not_declared m None q = refl
  not_declared m (Some i) q = ap (λ b. b && (same_role i.role role && i.has_body)) (ne_eqb i.name.0 name.0 (λ e. long (ap (rest_of levels) (sym e) ∙ names m.0 i q)))

  found_nothing : (ms : List MemberId) → None ≡ find (declares k name role) ms
  found_nothing [] = refl
  found_nothing (m ∷ ms) = found_nothing ms ∙ ap (λ b. cond b (Some m) (find (declares k name role) ms)) (sym (not_declared m (member_at k m.0) refl))

pub index_finds : (k : Classes) (x : Index) → IsIndex k x → (c : ℕ) (r : Roots) (name : Name) (role : Role) → slice_get x.roots.items c ≡ Some r → (n : ℕ) → n ≡ rest_of x.levels name.0 → IsFirstMember k c name role (option_map member_id (cond (n == 0) (held x.nodes.items x.levels (root r role) name.0) None))
index_finds k x index c r name role q zero e = index.indexed.finds c r name role q (sym e)
index_finds k x index c r name role q (suc n) e =
    let none : Name = record { 0 = 0 } in
    let f = index.indexed.finds c r none role q (rest_zero x.levels) in
    record {
      chain = f.chain;
      is_chain = f.is_chain;
      first =
          ap (λ b. option_map member_id (cond b (held x.nodes.items x.levels (root r role) name.0) None)) (ne_eqb (suc n) 0 (λ z. omega (arith, z)))
          ∙ found_nothing k x.levels index.names name role (λ z. let g : suc n ≡ 0 = e ∙ z in absurd (omega (arith, g))) (members_along k f.chain);
    }

pub unlisted_finds : (k : Classes) (x : Index) → IsIndex k x → (c : ℕ) (name : Name) (role : Role) → length x.roots.items ≤ c → IsFirstMember k c name role None
unlisted_finds k x index c name role l =
    let past : class_at k c ≡ None = slice_get_past k.classes.items c (let s = index.size in omega (arith, l, s)) in
    record {
      chain = c ∷ [];
      is_chain = ends c (ap superclass_in past);
      first = ap (λ i. find (declares k name role) (members_in i ++ [])) (sym past);
    }

pub indexed_pushed : (k : Classes) → IsValid k → (old new : Nodes) (rs : List Roots) (levels : ℕ) → IsIndexed k old rs levels → (i : ClassInfo) → class_at k (length rs) ≡ Some i → (ms : List MemberId) → ms ≡ i.members.items → (below made : Roots) → below ≡ inherited_roots rs (superclass_number i.superclass) → IsAdded k old new levels ms below made → (n : ℕ) → length rs ≡ n → (ts : List Roots) → ts ≡ rs ++ made ∷ [] → record { indexed : IsIndexed k new ts levels; size : length ts ≡ n + 1 }
indexed_pushed k valid old new rs levels x i at ms is below made from a n size ts q = record {
  indexed = transport (λ z. IsIndexed k new z levels) (sym q) (indexed_more k valid old new rs levels x i at ms is below made from a);
  size = let e = ap length q ∙ length-append rs (made ∷ []) in omega (arith, e, size);
}
