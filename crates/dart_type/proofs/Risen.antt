-- The types above an interned class.
use Rattle.std.proofs.Common.{◌≡◌, ℕ, zero, suc, ◌<◌, List, [], ◌∷◌, ◌++◌, length, map, get_or, Option, Some, None, refl, sym, ap, ◌∙◌, arith, subst as transport}
use Rattle.std.proofs.lemmas.List.{map-append}
use Rattle.dart_ir.specs.Ty.{Ty, Tys, cons, class, ty, tys, of_list}
use Rattle.dart_ir.specs.Classes.{class_at, direct_supertypes, with_superclass}
use Rattle.dart_ir.specs.declared.types.TypeRef.{TypeRef}
use Rattle.dart_ir.specs.declared.class.ClassInfo.{ClassInfo}
use Rattle.dart_ir.specs.declared.class.Classes.{Classes}
use Rattle.dart_type.specs.declared.intern.Node.{Node}
use Rattle.dart_type.specs.Instance.{instance, instances}
use Rattle.dart_type.specs.Relation.{append, table_of, supertypes_in, call_in}
use Rattle.dart_type.specs.Search.{above, if_call}
use Rattle.dart_type.specs.Intern.{read, reads, types, AreBelow, GivesAll}
use Rattle.dart_type.specs.Clauses.{GivesTys}
use Rattle.dart_type.proofs.Instances.{instances_map}
use Rattle.dart_type.proofs.Interned.{grows_trans, below_more, maps_same, kept_all}
use Rattle.dart_type.proofs.Entered.{args_kept}

at_cons : (n j : ℕ) (is : List ℕ) → j < n → AreBelow n is → (k d : ℕ) → k < suc (length is) → get_or (j ∷ is) k d < n
at_cons n j is h b zero d l = h
at_cons n j is h b (suc k) d l = b k d (omega (arith, l))

pub below_append : (n : ℕ) (is js : List ℕ) → AreBelow n is → AreBelow n js → AreBelow n (is ++ js)
below_append n [] js a b = b
below_append n (i ∷ is) js a b =
    let r = below_append n is js (λ k d l. a (suc k) d (omega (arith, l))) b in
    λ k d l. at_cons n i (is ++ js) (a zero i (omega arith)) r k d l

two_lists : (a b c d : List Ty) → a ≡ b → c ≡ d → a ++ c ≡ b ++ d
two_lists a b c d e h = cc

pub all_append : (a b c : List Node) (is js : List ℕ) (ts us : List Ty) → GivesAll a b is ts → GivesAll b c js us → GivesAll a c (is ++ js) (ts ++ us)
all_append a b c is js ts us g h = record {
  grows = grows_trans a b c g.grows h.grows;
  listed = below_append (length c) is js (below_more (length b) (length c) h.grows.longer is g.listed) h.listed;
  are =
      map-append (read (types c)) is js
      ∙ two_lists (map (read (types c)) is) ts (map (read (types c)) js) us (maps_same (types b) (types c) (length b) h.grows.same is g.listed ∙ g.are) h.are;
}

super_first : (f : TypeRef → Ty) (o : Option TypeRef) (us : List TypeRef) → map f (with_superclass o []) ++ map f us ≡ map f (with_superclass o us)
super_first f None us = refl
super_first f (Some u) us = refl

pub supertypes_given : (a b c : List Node) (args is js : List ℕ) (i : ClassInfo) → AreBelow (length a) args
    → GivesAll a b is (map (λ t. instance (reads (types a) args) (ty t)) (with_superclass i.superclass []))
    → GivesAll b c js (map (λ t. instance (reads (types b) args) (ty t)) i.interfaces.items)
    → GivesAll a c (is ++ js) (map (λ t. instance (reads (types a) args) (ty t)) (direct_supertypes i))
supertypes_given a b c args is js i l g h =
    let A = reads (types a) args in
    let h' : GivesAll b c js (map (λ t. instance A (ty t)) i.interfaces.items) = transport (λ z. GivesAll b c js (map (λ t. instance z (ty t)) i.interfaces.items)) (args_kept a b args g.grows l) h in
    transport (λ ts. GivesAll a c (is ++ js) ts) (super_first (λ t. instance A (ty t)) i.superclass i.interfaces.items)
    (all_append a b c is js (map (λ t. instance A (ty t)) (with_superclass i.superclass [])) (map (λ t. instance A (ty t)) i.interfaces.items) g h')

pub reads_append : (us : List Ty) (is js : List ℕ) → reads us (is ++ js) ≡ append (reads us is) (reads us js)
reads_append us [] js = refl
reads_append us (i ∷ is) js = ap (cons (read us i)) (reads_append us is js)

two_tys : (a b c d : Tys) → a ≡ b → c ≡ d → append a c ≡ append b d
two_tys a b c d e h = cc

abbrev above_in : Tys → ℕ → Option ClassInfo → Tys
above_in ts f o = append (instances ts (supertypes_in o)) (if_call (call_in o) f)

above_info : (k : Classes) (c : ℕ) (i : ClassInfo) (ts : Tys) → class_at k c ≡ Some i → append (instances ts (tys (direct_supertypes i))) (if_call i.callable k.function.0) ≡ above (table_of k) (class c ts)
above_info k c i ts e = transport (λ o. append (instances ts (tys (direct_supertypes i))) (if_call i.callable k.function.0) ≡ above_in ts k.function.0 o) (sym e) refl

pub above_given : (k : Classes) (a b d : List Node) (c : ℕ) (args is js : List ℕ) (i : ClassInfo) → class_at k c ≡ Some i
    → GivesAll a b is (map (λ t. instance (reads (types a) args) (ty t)) (direct_supertypes i)) → GivesTys b d js (if_call i.callable k.function.0)
    → GivesTys a d (is ++ js) (above (table_of k) (class c (reads (types a) args)))
above_given k a b d c args is js i e g h = record {
  grows = grows_trans a b d g.grows h.grows;
  listed = below_append (length d) is js (below_more (length b) (length d) h.grows.longer is g.listed) h.listed;
  are =
      reads_append (types d) is js
      ∙ two_tys (reads (types d) is) (instances (reads (types a) args) (tys (direct_supertypes i))) (reads (types d) js) (if_call i.callable k.function.0)
      (kept_all b d h.grows is g.listed ∙ ap of_list g.are ∙ instances_map (reads (types a) args) (direct_supertypes i)) h.are
      ∙ above_info k c i (reads (types a) args) e;
}
