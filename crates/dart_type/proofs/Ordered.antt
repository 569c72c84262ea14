-- A valid table of classes as the relation sees it.
use Rattle.std.proofs.Common.{◌≡◌, ℕ, zero, suc, ◌<◌, List, [], ◌∷◌, length, All, true, Option, Some, None, refl, sym, arith, subst as transport}
use Rattle.std.proofs.lemmas.Option.{slice_get_within}
use Rattle.dart_ir.specs.Ty.{Ty, Tys, dynamic, bottom, void, class, parameter, function, ty, tys}
use Rattle.dart_ir.specs.Classes.{IsValid, IsEarlierClass, HasCallAbove, HasCall as HasCallOf, class_at, direct_supertypes}
use Rattle.dart_ir.specs.declared.types.TypeRef.{TypeRef}
use Rattle.dart_ir.specs.declared.class.ClassInfo.{ClassInfo}
use Rattle.dart_ir.specs.declared.class.Classes.{Classes}
use Rattle.dart_type.specs.Relation.{Table, In, first, later, table_of, supertypes_in, call_in}
use Rattle.dart_type.specs.Search.{HasCall}

-- what the search asks of a table of n classes
pub record IsOrdered (k : Table) (n : ℕ) : Type 0 where
  pub supertypes : (c : ℕ) (u : Ty) → In u (k.supertypes c) → IsEarlierClass c u
  pub listed : (c : ℕ) (u : Ty) → In u (k.supertypes c) → c < n
  pub call : (c : ℕ) → k.has_call c ≡ true → k.function_class < c
  pub call_listed : (c : ℕ) → k.has_call c ≡ true → c < n
  pub inherited : (c : ℕ) (u : Ty) → In u (k.supertypes c) → HasCall k u → k.has_call c ≡ true
  pub bounds : (i : ℕ) (u : Ty) → In u (k.bounds i) → ⊥

all_in : (P : Ty → Type 0) (us : List TypeRef) → All (λ u. P (ty u)) us → (u : Ty) → In u (tys us) → P u
all_in P [] h u i = elim i [ ]
all_in P (v ∷ us) h u (first _ _) = h zero v (omega arith)
all_in P (v ∷ us) h u (later _ _ _ i) = all_in P us (λ k d l. h (suc k) d (omega (arith, l))) u i

module _ (k : Classes) (valid : IsValid k) where
  earlier : (c : ℕ) (i : Option ClassInfo) → class_at k c ≡ i → (u : Ty) → In u (supertypes_in i) → IsEarlierClass c u
  earlier c None e u h = elim h [ ]
  earlier c (Some i) e u h = all_in (IsEarlierClass c) (direct_supertypes i) (valid.classes c i e).supertypes u h

  has_info : (c : ℕ) (i : Option ClassInfo) → class_at k c ≡ i → (u : Ty) → In u (supertypes_in i) → c < length k.classes.items
  has_info c None e u h = elim h [ ]
  has_info c (Some i) e u h = slice_get_within k.classes.items c i e

  call_after : (c : ℕ) (i : Option ClassInfo) → class_at k c ≡ i → call_in i ≡ true → k.function.0 < c
  call_after c None e h = absurd (cc)
  call_after c (Some i) e h = (valid.classes c i e).call h

  call_info : (c : ℕ) (i : Option ClassInfo) → class_at k c ≡ i → call_in i ≡ true → c < length k.classes.items
  call_info c None e h = absurd (cc)
  call_info c (Some i) e h = slice_get_within k.classes.items c i e

  call_in_above : (i : Option ClassInfo) → call_in i ≡ true → (e : ℕ) (ts : Tys) → class_at k e ≡ i → HasCallAbove k (class e ts)
  call_in_above None h e ts p = absurd (cc)
  call_in_above (Some i) h e ts p = transport (λ o. HasCallOf o) (sym p) h

  call_above : (u : Ty) → HasCall (table_of k) u → HasCallAbove k u
  call_above (class e ts) h = call_in_above (class_at k e) h e ts refl
  call_above dynamic h = h
  call_above bottom h = h
  call_above void h = h
  call_above (parameter i) h = h
  call_above (function r q o n) h = h

  call_below : (c : ℕ) (i : Option ClassInfo) → class_at k c ≡ i → (u : Ty) → In u (supertypes_in i) → HasCallAbove k u → call_in i ≡ true
  call_below c None e u h a = elim h [ ]
  call_below c (Some i) e u h a = all_in (λ v. HasCallAbove k v → i.callable ≡ true) (direct_supertypes i) (valid.classes c i e).inherited u h a

  pub ordered : IsOrdered (table_of k) (length k.classes.items)
  ordered = record {
    supertypes = λ c u h. earlier c (class_at k c) refl u h;
    listed = λ c u h. has_info c (class_at k c) refl u h;
    call = λ c h. call_after c (class_at k c) refl h;
    call_listed = λ c h. call_info c (class_at k c) refl h;
    inherited = λ c u h a. call_below c (class_at k c) refl u h (call_above u a);
    bounds = λ i u h. elim h [ ];
  }
