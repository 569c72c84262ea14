-- How many digits the names of members have, and which members trees have.
use Rattle.std.proofs.Common.{◌≡◌, ℕ, ◌+◌, ◌-◌, ◌<◌, ◌≤◌, ◌==◌, ◌&&◌, max, inl, inr, Bool, true, false, cond, List, [], ◌∷◌, length, get_or, drop, Option, Some, None, option_map, find, slice_get, arith, refl, sym, ap, ◌∙◌, subst as transport}
use Rattle.std.proofs.lemmas.Bool.{cases_eq, eq-eqb, ne_eqb}
use Rattle.std.proofs.lemmas.Option.{same_Some, slice_get_read}
use Rattle.std.proofs.lemmas.List.{drop_more}
use Rattle.std.specs.Option.{option_or}
use Rattle.dart_base.specs.declared.name.Name.{Name}
use Rattle.dart_ir.specs.Classes.{member_at}
use Rattle.dart_ir.specs.declared.number.MemberId.{MemberId}
use Rattle.dart_ir.specs.declared.class.Role.{Role}
use Rattle.dart_ir.specs.declared.class.Role.TheVariants.{Method, Getter, Setter}
use Rattle.dart_ir.specs.declared.class.MemberInfo.{MemberInfo}
use Rattle.dart_ir.specs.declared.class.Classes.{Classes}
use Rattle.dart_type.specs.Member.{same_role, is_declaration, declares}
use Rattle.class_lookup.specs.declared.index.Roots.{Roots}
use Rattle.class_lookup.specs.Tree.{held, rest_of, IsTree, Agree, IsPut}
use Rattle.class_lookup.specs.Index.{root, HasTrees, member_id, member_in, IsAdded}
use Rattle.class_lookup.proofs.Trees.{rest_longer, agree_same, agree_self, grows_tree, grows_held, grows_self, grows_on}

-- one more member whose name has at most so many digits
pub names_more : (ms : List MemberInfo) (i n d : ℕ) (x : MemberInfo) → x ≡ get_or ms i x → i < length ms → rest_of d x.name.0 ≡ 0 → (p : ℕ) → p ≡ max d n → ((j : ℕ) (m : MemberInfo) → j < i → slice_get ms j ≡ Some m → rest_of n m.name.0 ≡ 0)
    → (j : ℕ) (m : MemberInfo) → j < i + 1 → slice_get ms j ≡ Some m → rest_of p m.name.0 ≡ 0
names_more ms i n d x at l short p q before j m below is = elim (cases_eq j i) [
  | inl e ↦
      let here : slice_get ms i ≡ Some x = slice_get_read ms (length ms) i x refl l at in
      let same : m ≡ x = same_Some m x (sym is ∙ ap (slice_get ms) e ∙ here) in
      ap (λ y. rest_of p y.name.0) same ∙ rest_longer d p x.name.0 short (omega (arith, q))
  | inr e ↦ rest_longer n p m.name.0 (before j m (omega (arith, below, e)) is) (omega (arith, q))
]

role_self : (r : Role) → same_role r r ≡ true
role_self Method = refl
role_self Getter = refl
role_self Setter = refl

role_cases : (r s : Role) (b : Bool) → same_role r s ≡ b → b ≡ true → r ≡ s
role_cases Method Method b q t = refl
role_cases Getter Getter b q t = refl
role_cases Setter Setter b q t = refl
role_cases Method Getter b q t = absurd (cc)
role_cases Method Setter b q t = absurd (cc)
role_cases Getter Method b q t = absurd (cc)
role_cases Getter Setter b q t = absurd (cc)
role_cases Setter Method b q t = absurd (cc)
role_cases Setter Getter b q t = absurd (cc)

-- nothing is added
pub added_none : (k : Classes) (ns : List (List (Option ℕ))) (levels : ℕ) (r : Roots) → HasTrees ns levels r → IsAdded k ns ns levels [] r r
added_none k ns levels r trees = record { grows = grows_self ns; trees = trees; finds = λ name role short. refl }

-- a member that is no declaration changes nothing
pub added_unchanged : (k : Classes) (ns : List (List (Option ℕ))) (levels : ℕ) (r : Roots) (m : MemberId) → HasTrees ns levels r → ((name : Name) (role : Role) → declares k name role m ≡ false) → IsAdded k ns ns levels (m ∷ []) r r
added_unchanged k ns levels r m trees none = record {
  grows = grows_self ns;
  trees = trees;
  finds = λ name role short. ap (λ b. option_or (cond b (Some m) None) (member_in ns levels r name role)) (sym (none name role));
}

pub absent : (k : Classes) (m : MemberId) → member_at k m.0 ≡ None → (name : Name) (role : Role) → declares k name role m ≡ false
absent k m at name role = ap (λ x. is_declaration x name role) at

no_body : (a b c : Bool) → c ≡ false → (a && (b && c)) ≡ false
no_body true true c q = q
no_body true false c q = refl
no_body false b c q = refl

pub bodiless : (k : Classes) (m : MemberId) (i : MemberInfo) → member_at k m.0 ≡ Some i → i.has_body ≡ false → (name : Name) (role : Role) → declares k name role m ≡ false
bodiless k m i at q name role = ap (λ x. is_declaration x name role) at ∙ no_body (i.name.0 == name.0) (same_role i.role role) i.has_body q

undeclared : (b : Bool) (m : MemberId) (o : Option MemberId) → b ≡ false → o ≡ option_or (cond b (Some m) None) o
undeclared true m o q = absurd (cc)
undeclared false m o q = refl

declared : (b : Bool) (m : MemberId) (o : Option MemberId) → b ≡ true → Some m ≡ option_or (cond b (Some m) None) o
declared true m o q = refl
declared false m o q = absurd (cc)

-- a declaration whose name and role are put into a tree
module _ (k : Classes) (old new : List (List (Option ℕ))) (levels : ℕ) (r made : Roots) (m : MemberId) (i : MemberInfo) (at : member_at k m.0 ≡ Some i) (body : i.has_body ≡ true) (trees : HasTrees old levels r) (short : rest_of levels i.name.0 ≡ 0) (o : Option ℕ) (p : IsPut old new levels (root r i.role) i.name.0 m.0 o) (roots : (s : Role) → root made s ≡ cond (same_role i.role s) o (root r s)) where
  declares_is : (name : Name) (role : Role) → declares k name role m ≡ (i.name.0 == name.0 && (same_role i.role role && i.has_body))
  declares_is name role = ap (λ x. is_declaration x name role) at

  -- the tree of another role
  other_root : (s : Role) → same_role i.role s ≡ false → root made s ≡ root r s
  other_root s q = roots s ∙ ap (λ b. cond b o (root r s)) q

  own_root : (s : Role) → same_role i.role s ≡ true → root made s ≡ o
  own_root s q = roots s ∙ ap (λ b. cond b o (root r s)) q

  tree_by : (s : Role) (b : Bool) → same_role i.role s ≡ b → IsTree new levels (root made s)
  tree_by s true q = transport (IsTree new levels) (sym (own_root s q)) p.tree
  tree_by s false q = transport (IsTree new levels) (sym (other_root s q)) (grows_tree old new p.grows levels (root r s) (trees s))

  and_false : (a b : Bool) → b ≡ false → (a && (b && i.has_body)) ≡ false
  and_false true b q = ap (λ x. x && i.has_body) q
  and_false false b q = refl

  found_by : (name : Name) (role : Role) → rest_of levels name.0 ≡ 0 → (b : Bool) → same_role i.role role ≡ b → member_in new levels made name role ≡ option_or (cond (i.name.0 == name.0 && (b && i.has_body)) (Some m) None) (member_in old levels r name role)
  found_by name role s false q =
      ap (λ x. option_map member_id (held new levels x name.0)) (other_root role q)
      ∙ ap (option_map member_id) (grows_held old new p.grows levels (root r role) name.0 (trees role))
      ∙ undeclared (i.name.0 == name.0 && false) m (member_in old levels r name role) (and_false (i.name.0 == name.0) false refl)
  found_by name role s true q = elim (cases_eq name.0 i.name.0) [
    | inl e ↦
        ap (λ x. option_map member_id (held new levels x name.0)) (own_root role q)
        ∙ ap (option_map member_id) (p.here name.0 (transport (λ x. Agree levels x i.name.0) (sym e) (agree_self levels i.name.0)))
        ∙ declared (i.name.0 == name.0 && i.has_body) m (member_in old levels r name role) (ap (λ b. b && i.has_body) (eq-eqb i.name.0 name.0 (sym e)) ∙ body)
    | inr e ↦
        ap (λ x. option_map member_id (held new levels x name.0)) (own_root role q)
        ∙ ap (option_map member_id) (p.elsewhere name.0 (λ a. e (agree_same levels name.0 i.name.0 a s short)))
        ∙ ap (λ x. option_map member_id (held old levels (root r x) name.0)) (role_cases i.role role true q refl)
        ∙ undeclared (i.name.0 == name.0 && i.has_body) m (member_in old levels r name role) (ap (λ b. b && i.has_body) (ne_eqb i.name.0 name.0 (λ f. e (sym f))))
  ]

  pub added_one : IsAdded k old new levels (m ∷ []) r made
  added_one = record {
    grows = p.grows;
    trees = λ s. tree_by s (same_role i.role s) refl;
    finds = λ name role s.
        found_by name role s (same_role i.role role) refl
        ∙ ap (λ b. option_or (cond b (Some m) None) (member_in old levels r name role)) (sym (declares_is name role));
  }

or_assoc : (b : Bool) (m : MemberId) (x y : Option MemberId) → option_or (cond b (Some m) None) (option_or x y) ≡ option_or (cond b (Some m) x) y
or_assoc true m x y = refl
or_assoc false m x y = refl

-- a member before others
pub added_before : (k : Classes) (a b d : List (List (Option ℕ))) (levels : ℕ) (m : MemberId) (ms : List MemberId) (r s t : Roots) → IsAdded k a b levels ms r s → IsAdded k b d levels (m ∷ []) s t → IsAdded k a d levels (m ∷ ms) r t
added_before k a b d levels m ms r s t x y = record {
  grows = grows_on a b d x.grows y.grows;
  trees = y.trees;
  finds = λ name role short.
      y.finds name role short
      ∙ ap (option_or (cond (declares k name role m) (Some m) None)) (x.finds name role short)
      ∙ or_assoc (declares k name role m) m (find (declares k name role) ms) (member_in a levels r name role);
}

-- one more member, from the last on
pub added_down : (k : Classes) (a b d : List (List (Option ℕ))) (levels j : ℕ) (xs : List MemberId) (m other : MemberId) (r s t : Roots) → 0 < j → j ≤ length xs → m ≡ get_or xs (j - 1) other → IsAdded k a b levels (drop j xs) r s → IsAdded k b d levels (m ∷ []) s t → IsAdded k a d levels (drop (j - 1) xs) r t
added_down k a b d levels j xs m other r s t l n at x y =
    let q : j - 1 + 1 ≡ j = omega (arith, l) in
    let e : drop (j - 1) xs ≡ m ∷ drop j xs =
    drop_more xs (j - 1) other (omega (arith, l, n)) ∙ ap (λ z. z ∷ drop (j - 1 + 1) xs) (sym at) ∙ ap (λ z. m ∷ drop z xs) q in
    transport (λ ms. IsAdded k a d levels ms r t) (sym e) (added_before k a b d levels m (drop j xs) r s t x y)
