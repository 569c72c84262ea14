-- Where no header type has a reason, no class leads back to itself.
use Rattle.std.proofs.Common.{◌≡◌, ℕ, zero, suc, ◌<◌, ◌≤◌, ◌+◌, inl, inr, ◌⊎◌, Bool, true, false, List, [], ◌∷◌, ◌++◌, length, get_or, map, Option, Some, None, slice_get, arith, refl, sym, ap, ◌∙◌, ◌==◌, cond, subst as transport}
use Rattle.std.proofs.lemmas.Bool.{cases_eq}
use Rattle.std.proofs.lemmas.Option.{same_Some, slice_get_within}
use Rattle.class_order.specs.declared.header.Header.{Header}
use Rattle.class_order.specs.Order.{above, Leads, names, passes, HasCycle}
use Rattle.class_order.proofs.Ordered.{has_above}
use Rattle.dart_ir.specs.Ty.{ty}
use Rattle.class_fault.specs.declared.fault.Reason.{Reason}
use Rattle.class_fault.specs.declared.fault.Fault.{Fault}
use Rattle.class_fault.specs.declared.program.Clause.{Clause}
use Rattle.class_fault.specs.declared.program.Clause.TheVariants.{Extends, With, Implements}
use Rattle.class_fault.specs.declared.program.HeaderType.{HeaderType}
use Rattle.class_fault.specs.declared.program.Declaration.{Declaration}
use Rattle.class_fault.specs.declared.program.Program.{Program}
use Rattle.class_fault.specs.Program.{declaration_at, class_named, declares_call}
use Rattle.class_fault.specs.Reach.{LeadsTo}
use Rattle.class_fault.specs.Graph.{named_classes, superclass_named, function_if, above_of, IsGraph, HasRoots}
use Rattle.class_fault.specs.Fault.{IsVerdict, no_class, leads_back, decided, IsFirst, no_more, here, later, IsFirstFrom, past, in_class, in_later, in_clause, extended, header_types}
use Rattle.class_fault.proofs.Graphs.{Among, among_parts, among_none, among_one, NamedBy, named_by}

module _ (p : Program) (hs : List Header) where
  -- the verdicts on the types of a list that has no fault
  none_of : (d : ℕ) (ts : List (Clause × HeaderType)) (o : Option Fault) → IsFirst p hs d ts o → o ≡ None → (k : ℕ) (x : Clause × HeaderType) → slice_get ts k ≡ Some x → IsVerdict p hs d x.0 x.1 None
  none_of d [] _ no_more q k x g = absurd (cc)
  none_of d (y ∷ ts) _ (here clause t _ r v) q k x g = absurd (cc)
  none_of d (y ∷ ts) o (later clause t _ _ v r) q zero x g = transport (λ (z : Clause × HeaderType). IsVerdict p hs d z.0 z.1 None) (same_Some (clause, t) x g) v
  none_of d (y ∷ ts) o (later clause t _ _ v r) q (suc k) x g = none_of d ts o r q k x g

  no_lead : (d : ℕ) (clause : Clause) (t : HeaderType) (o : Option Reason) → IsVerdict p hs d clause t o → o ≡ None → (e : ℕ) → class_named (ty t.of) ≡ Some e → LeadsTo hs e d → ⊥
  no_lead d clause t _ (no_class n) q e f s = cc
  no_lead d clause t _ (leads_back b n l) q e f s = cc
  no_lead d clause t _ (decided b c n g l u v) q e f s = l (transport (λ z. LeadsTo hs z d) (same_Some e b (sym f ∙ g)) s)

  is_class : (d : ℕ) (clause : Clause) (t : HeaderType) (o : Option Reason) → IsVerdict p hs d clause t o → o ≡ None → (e : ℕ) × (class_named (ty t.of) ≡ Some e)
  is_class d clause t _ (no_class n) q = absurd (cc)
  is_class d clause t _ (leads_back b n l) q = absurd (cc)
  is_class d clause t _ (decided b c n g l u v) q = (b, g)

  all_first : (a : ℕ) (o : Option Fault) → IsFirstFrom p hs a o → o ≡ None → (d : ℕ) (i : Declaration) → a ≤ d → declaration_at p d ≡ Some i → IsFirst p hs d (header_types i) None
  all_first a _ (past _ l) q d i m at = let w = slice_get_within p.declarations.items d i at in absurd (omega (arith, l, m, w))
  all_first a _ (in_class _ j f u v) q d i m at = absurd (cc)
  all_first a o (in_later _ j _ u v r) q d i m at =
      elim (cases_eq d a) [
        | inl e ↦ transport (λ z. IsFirst p hs z (header_types i) None) (sym e) (transport (λ z. IsFirst p hs a (header_types z) None) (same_Some j i (sym u ∙ ap (declaration_at p) (sym e) ∙ at)) v)
        | inr n ↦ all_first (a + 1) o r q d i (omega (arith, m, n)) at
      ]

-- where the types of a clause stand among those of the header
stands_left : {A : Type 0} (xs ys : List A) (k : ℕ) (x : A) → slice_get xs k ≡ Some x → slice_get (xs ++ ys) k ≡ Some x
stands_left [] ys k x q = absurd (cc)
stands_left (y ∷ xs) ys zero x q = q
stands_left (y ∷ xs) ys (suc k) x q = stands_left xs ys k x q

stands_right : {A : Type 0} (xs ys : List A) (k : ℕ) (x : A) → slice_get ys k ≡ Some x → slice_get (xs ++ ys) (length xs + k) ≡ Some x
stands_right [] ys k x q = let e : 0 + k ≡ k = omega arith in ap (slice_get ys) e ∙ q
stands_right (y ∷ xs) ys k x q = let e : suc (length xs) + k ≡ suc (length xs + k) = omega arith in ap (slice_get (y ∷ (xs ++ ys))) e ∙ stands_right xs ys k x q

in_clause_at : (clause : Clause) (ts : List HeaderType) (k : ℕ) (t : HeaderType) → slice_get ts k ≡ Some t → slice_get (in_clause clause ts) k ≡ Some (clause, t)
in_clause_at clause [] k t q = absurd (cc)
in_clause_at clause (u ∷ ts) zero t q = ap (λ (z : HeaderType). Some (clause, z)) (same_Some u t q)
in_clause_at clause (u ∷ ts) (suc k) t q = in_clause_at clause ts k t q

mixin_stands : (i : Declaration) (k : ℕ) (t : HeaderType) → slice_get i.mixins.items k ≡ Some t → slice_get (header_types i) (length (extended i.superclass) + k) ≡ Some (With, t)
mixin_stands i k t q =
    stands_left (extended i.superclass ++ in_clause With i.mixins.items) (in_clause Implements i.interfaces.items) (length (extended i.superclass) + k) (With, t)
    (stands_right (extended i.superclass) (in_clause With i.mixins.items) k (With, t) (in_clause_at With i.mixins.items k t q))

interface_stands : (i : Declaration) (k : ℕ) (t : HeaderType) → slice_get i.interfaces.items k ≡ Some t → slice_get (header_types i) (length (extended i.superclass ++ in_clause With i.mixins.items) + k) ≡ Some (Implements, t)
interface_stands i k t q = stands_right (extended i.superclass ++ in_clause With i.mixins.items) (in_clause Implements i.interfaces.items) k (Implements, t) (in_clause_at Implements i.interfaces.items k t q)

module _ (p : Program) (hs : List Header) (graph : IsGraph p hs) (roots : HasRoots p) (none : IsFirstFrom p hs 0 None) where
  -- no type of a header leads back
  named_back : (d : ℕ) (i : Declaration) → declaration_at p d ≡ Some i → (k : ℕ) (clause : Clause) (t : HeaderType) → slice_get (header_types i) k ≡ Some (clause, t) → (e : ℕ) → class_named (ty t.of) ≡ Some e → LeadsTo hs e d → ⊥
  named_back d i at k clause t g e n s =
      no_lead p hs d clause t None (none_of p hs d (header_types i) None (all_first p hs 0 None none refl d i (omega arith) at) refl k (clause, t) g) refl e n s

  -- each type of a header is a class
  verdict_at : (d : ℕ) (i : Declaration) → declaration_at p d ≡ Some i → (k : ℕ) (clause : Clause) (t : HeaderType) → slice_get (header_types i) k ≡ Some (clause, t) → (e : ℕ) × (class_named (ty t.of) ≡ Some e)
  verdict_at d i at k clause t g = is_class p hs d clause t None (none_of p hs d (header_types i) None (all_first p hs 0 None none refl d i (omega arith) at) refl k (clause, t) g) refl

  pub superclass_class : (d : ℕ) (i : Declaration) → declaration_at p d ≡ Some i → (t : HeaderType) → i.superclass ≡ Some t → (e : ℕ) × (class_named (ty t.of) ≡ Some e)
  superclass_class d i at t q =
      verdict_at d i at 0 Extends t (stands_left (extended i.superclass ++ in_clause With i.mixins.items) (in_clause Implements i.interfaces.items) 0 (Extends, t) (stands_left (extended i.superclass) (in_clause With i.mixins.items) 0 (Extends, t) (ap (λ o. slice_get (extended o) 0) q)))

  pub mixin_class : (d : ℕ) (i : Declaration) → declaration_at p d ≡ Some i → (k : ℕ) (t : HeaderType) → slice_get i.mixins.items k ≡ Some t → (e : ℕ) × (class_named (ty t.of) ≡ Some e)
  mixin_class d i at k t q = verdict_at d i at (length (extended i.superclass) + k) With t (mixin_stands i k t q)

  pub interface_class : (d : ℕ) (i : Declaration) → declaration_at p d ≡ Some i → (k : ℕ) (t : HeaderType) → slice_get i.interfaces.items k ≡ Some t → (e : ℕ) × (class_named (ty t.of) ≡ Some e)
  interface_class d i at k t q = verdict_at d i at (length (extended i.superclass ++ in_clause With i.mixins.items) + k) Implements t (interface_stands i k t q)

  declared : (d k : ℕ) → k < length (above hs d) → (i : Declaration) × (declaration_at p d ≡ Some i)
  declared d k l = some_in p.declarations.items d (let m = has_above hs d k (slice_get hs d) refl l in let s = graph.size in omega (arith, m, s))
    where
      some_in : (xs : List Declaration) (i : ℕ) → i < length xs → (x : Declaration) × (slice_get xs i ≡ Some x)
      some_in [] i l = absurd (omega (arith, l))
      some_in (x ∷ xs) zero l = (x, refl)
      some_in (x ∷ xs) (suc i) l = some_in xs i (omega (arith, l))

  among_above : (d k : ℕ) → (l : k < length (above hs d)) → Among (get_or (above hs d) k 0) (above_of p d (declared d k l).0)
  among_above d k l = let x = declared d k l in transport (Among (get_or (above hs d) k 0)) (graph.above d x.0 x.1) (k, l, refl)

  object_none : (d k : ℕ) → d ≡ p.object → k < length (above hs d) → ⊥
  object_none d k q l =
      let x = declared d k l in
      let i = x.0 in
      let r : above_of p d i ≡ [] = ap (λ z. above_of p z i) q ∙ roots.object i (ap (declaration_at p) (sym q) ∙ x.1) in
      among_none _ (transport (Among (get_or (above hs d) k 0)) r (among_above d k l))

  object_leads : (d e : ℕ) → d ≡ p.object → Leads hs d e → ⊥
  object_leads d _ q (names _ k l) = object_none d k q l
  object_leads d _ q (passes _ k e l r) = object_none d k q l

  function_object : (d k : ℕ) → d ≡ p.function → k < length (above hs d) → get_or (above hs d) k 0 ≡ p.object
  function_object d k q l =
      let x = declared d k l in
      let i = x.0 in
      let r : above_of p d i ≡ p.object ∷ [] = ap (λ z. above_of p z i) q ∙ roots.function i (ap (declaration_at p) (sym q) ∙ x.1) in
      sym (among_one _ p.object (transport (Among (get_or (above hs d) k 0)) r (among_above d k l)))

  function_leads : (d e : ℕ) → d ≡ p.function → Leads hs d e → e ≡ p.object
  function_leads d _ q (names _ k l) = function_object d k q l
  function_leads d _ q (passes _ k e l r) = absurd (object_leads (get_or (above hs d) k 0) e (function_object d k q l) r)

  -- a class that stands above leads back no more
  module _ (d : ℕ) (i : Declaration) (at : declaration_at p d ≡ Some i) (k : ℕ) (l : k < length (above hs d)) (s : LeadsTo hs (get_or (above hs d) k 0) d) where
    abbrev e : ℕ
    e = get_or (above hs d) k 0

    not_object : e ≡ p.object → ⊥
    not_object q = elim s [ inl r ↦ object_none d k (sym r ∙ q) l | inr r ↦ object_leads e d q r ]

    not_function : e ≡ p.function → ⊥
    not_function q = elim s [ inl r ↦ not_object (function_object d k (sym r ∙ q) l) | inr r ↦ object_none d k (function_leads e d q r) l ]

    named_in_clause : (clause : Clause) (ts : List HeaderType) → ((k : ℕ) (t : HeaderType) → slice_get ts k ≡ Some t → (j : ℕ) × (slice_get (header_types i) j ≡ Some (clause, t))) → Among e (named_classes ts) → ⊥
    named_in_clause clause ts stands a = let b = named_by e ts a in let j = stands b.0 b.1 b.2 in named_back d i at j.0 clause b.1 j.1 e b.3 s

    no_superclass : (o : Option HeaderType) → i.superclass ≡ o → Among e (superclass_named p d o) → ⊥
    no_superclass None q a = from_object (d == p.object) a
      where
        from_object : (b : Bool) → Among e (cond b [] (p.object ∷ [])) → ⊥
        from_object true a = among_none e a
        from_object false a = not_object (sym (among_one e p.object a))
    no_superclass (Some t) q a = named_in_clause Extends (t ∷ []) (λ k u g. (k, stands_left _ (in_clause Implements i.interfaces.items) k (Extends, u) (stands_left _ (in_clause With i.mixins.items) k (Extends, u) (transport (λ o. slice_get (extended o) k ≡ Some (Extends, u)) (sym q) (in_clause_at Extends (t ∷ []) k u g))))) a

    no_function : (b : Bool) → Among e (function_if p b) → ⊥
    no_function true a = not_function (sym (among_one e p.function a))
    no_function false a = among_none e a

    pub no_above : Among e (above_of p d i) → ⊥
    no_above a = elim (among_parts e (superclass_named p d i.superclass ++ named_classes i.mixins.items ++ named_classes i.interfaces.items) _ a) [
      | inl b ↦ elim (among_parts e (superclass_named p d i.superclass ++ named_classes i.mixins.items) _ b) [
        | inl c ↦ elim (among_parts e (superclass_named p d i.superclass) _ c) [
          | inl f ↦ no_superclass i.superclass refl f
          | inr f ↦ named_in_clause With i.mixins.items (λ k t g. (length (extended i.superclass) + k, mixin_stands i k t g)) f
        ]
        | inr c ↦ named_in_clause Implements i.interfaces.items (λ k t g. (length (extended i.superclass ++ in_clause With i.mixins.items) + k, interface_stands i k t g)) c
      ]
      | inr b ↦ no_function (declares_call p.call i) b
    ]

  first_edge : (d e : ℕ) → Leads hs d e → (k : ℕ) × (k < length (above hs d)) × LeadsTo hs (get_or (above hs d) k 0) e
  first_edge d _ (names _ k l) = (k, l, inl refl)
  first_edge d _ (passes _ k e l r) = (k, l, inr r)

  pub no_cycle : HasCycle hs → ⊥
  no_cycle h =
      let f = first_edge h.0 h.0 h.1 in
      let x = declared h.0 f.0 f.1 in
      no_above h.0 x.0 x.1 f.0 f.1 f.2 (among_above h.0 f.0 f.1)
