-- Values of classes without type arguments at sites that ask for such a class.
use Rattle.std.proofs.Common.{◌≡◌, ◌≢◌, ◌≤◌, ◌-◌, ℕ, zero, suc, List, [], ◌∷◌, length, Bool, true, false, ◌&&◌, ◌||◌, cond, nat_eq, Option, Some, refl, ap, ◌∙◌, arith}
use Rattle.std.proofs.lemmas.Bool.{eq-eqb}
use Rattle.std.specs.Global.{Vec}
use Rattle.dart_ir.specs.Ty.{Ty, Tys, dynamic, class, nil, cons, of_list, ty, tys}
use Rattle.dart_ir.specs.declared.number.ClassId.{ClassId}
use Rattle.dart_ir.specs.declared.types.TypeRef.{TypeRef}
use Rattle.dart_ir.specs.declared.types.TypeRef as ref
use Rattle.dart_ir.proofs.View.{ty_class}
use Rattle.dart_ir.specs.Object.{of}
use Rattle.dart_ir.specs.declared.class.Classes.{Classes}
use Rattle.dart_ir.specs.declared.class.ClassInfo.{ClassInfo}
use Rattle.dart_ir.specs.Classes.{with_superclass}
use Rattle.dart_type.specs.Instance.{instance, instances}
use Rattle.dart_type.specs.Relation.{Table, append, supertypes_in, table_of}
use Rattle.dart_type.specs.Search.{Goal, facing, each_below, above, if_call, measure}
use Rattle.type_test.specs.Test.{is_formed, is_subtype, holds_within, all_clauses, any_way}
use Rattle.evaluation.specs.Checks.{is_of_type}
use Rattle.machine_frame.specs.declared.around.Around.{Around}
use Rattle.machine_frame.specs.Above.{IsPlainSuperclass, IsReached}
use Rattle.machine_frame.specs.Outside.{checking_of}

-- ---- comparisons of classes without type arguments

abbrev plain : ℕ → Ty
plain c = class c nil

abbrev ways : Table → ℕ → ℕ → List Goal
ways k c d = each_below (above k (plain c)) (plain d)

-- the clauses of such a comparison, by whether they are the same class
abbrev clauses : Table → ℕ → ℕ → Bool → List (List Goal)
clauses k c d same = cond same (facing nil nil (ways k c d)) (ways k c d ∷ [])

-- a class is below itself
pub itself : (k : Classes) (c d n : ℕ) → c ≡ d → holds_within (suc n) (table_of k) (plain c, plain d) ≡ true
unfolding holds_within
itself k c d n e = ap (λ b. all_clauses (holds_within n (table_of k)) (clauses (table_of k) c d b)) (eq-eqb c d e)

-- and below what its superclass is below
by_superclass : (k : Classes) (c d e m : ℕ) (more : Tys) (same : Bool) → (table_of k).supertypes c ≡ cons (plain e) more
    → holds_within (suc m) (table_of k) (plain e, plain d) ≡ true → all_clauses (holds_within (suc m) (table_of k)) (clauses (table_of k) c d same) ≡ true
by_superclass k c d e m more true is h = refl
by_superclass k c d e m more false is h =
    let holds = holds_within (suc m) (table_of k) in
    let rest = each_below (append (instances nil more) (if_call ((table_of k).has_call c) (table_of k).function_class)) (plain d) in
    ap (λ (ts : Tys). any_way holds (each_below (append (instances nil ts) (if_call ((table_of k).has_call c) (table_of k).function_class)) (plain d)) && true) is
    ∙ ap (λ b. (b || any_way holds rest) && true) h

pub reached : (k : Classes) (c d e levels : ℕ) → levels ≢ 0 → IsPlainSuperclass k c e → IsReached k e d (levels - 1) → IsReached k c d levels
unfolding holds_within
reached k c d e levels some is below zero enough = absurd (omega (arith, some, enough))
reached k c d e levels some is below (suc m) enough =
    by_superclass k c d e m is.0 (nat_eq c d) is.1 (below m (let h : levels - 1 ≤ m = omega (arith, some, enough) in h))

class_above : (k : Classes) (c d levels : ℕ) → levels ≤ 3 → IsReached k c d levels → is_formed k (plain c) ≡ true → is_formed k (plain d) ≡ true
    → is_subtype k (plain c) (plain d) ≡ true
unfolding is_subtype
class_above k c d levels few below formed formed_too =
    let n = measure (table_of k) (length k.classes.items) (plain c, plain d) in
    ap (λ b. b && (is_formed k (plain d) && holds_within (suc n) (table_of k) (plain c, plain d))) formed
    ∙ ap (λ b. b && holds_within (suc n) (table_of k) (plain c, plain d)) formed_too
    ∙ below n (let h : levels ≤ n = omega (arith, few) in h)

-- and below `dynamic`
dynamic_above : (k : Classes) (c : ℕ) → is_formed k (class c nil) ≡ true → is_subtype k (class c nil) dynamic ≡ true
unfolding is_subtype holds_within
dynamic_above k c f = ap (λ b. b && (true && true)) f

pub is_reached : (a : Around) (c d levels : ℕ) (t : Ty) → t ≡ plain d → levels ≤ 3 → IsReached a.program.now.classes c d levels
    → is_formed a.program.now.classes (plain c) ≡ true → is_formed a.program.now.classes (plain d) ≡ true
    → (args : List Ty) → is_of_type (checking_of a) (of c []) (instance (of_list args) t) ≡ true
is_reached a c d levels t is few below formed formed_too args =
    ap (λ t. is_of_type (checking_of a) (of c []) (instance (of_list args) t)) is ∙ class_above a.program.now.classes c d levels few below formed formed_too

pub is_dynamic : (a : Around) (c : ℕ) (t : Ty) → t ≡ dynamic → is_formed a.program.now.classes (class c nil) ≡ true
    → (args : List Ty) → is_of_type (checking_of a) (of c []) (instance (of_list args) t) ≡ true
is_dynamic a c t is f args =
    ap (λ t. is_of_type (checking_of a) (of c []) (instance (of_list args) t)) is ∙ dynamic_above a.program.now.classes c f

-- the same of a type into which nothing is put
pub is_reached_alone : (a : Around) (c d levels : ℕ) (t : Ty) → t ≡ plain d → levels ≤ 3 → IsReached a.program.now.classes c d levels
    → is_formed a.program.now.classes (plain c) ≡ true → is_formed a.program.now.classes (plain d) ≡ true
    → is_of_type (checking_of a) (of c []) t ≡ true
is_reached_alone a c d levels t is few below formed formed_too =
    ap (is_of_type (checking_of a) (of c [])) is ∙ class_above a.program.now.classes c d levels few below formed formed_too

pub is_dynamic_alone : (a : Around) (c : ℕ) (t : Ty) → t ≡ dynamic → is_formed a.program.now.classes (class c nil) ≡ true
    → is_of_type (checking_of a) (of c []) t ≡ true
is_dynamic_alone a c t is f = ap (is_of_type (checking_of a) (of c [])) is ∙ dynamic_above a.program.now.classes c f

pub no_types : (ts : List TypeRef) → length ts ≡ 0 → ts ≡ []
no_types [] e = refl
no_types (t ∷ ts) e = absurd (cc)

-- a class without type arguments, as it is seen
pub plain_type : (t : TypeRef) (c : ClassId) (ts : Vec TypeRef) (n : ℕ) → t ≡ ref.Class c ts → c.0 ≡ n → ts.items ≡ [] → ty t ≡ class n nil
plain_type t c ts n is same none =
    ap ty is ∙ ty_class c ts ∙ ap (λ (k : ℕ). class k (tys ts.items)) same ∙ ap (λ (l : List TypeRef). class n (tys l)) none

-- the first type above a class
pub superclass_first : (o : Option ClassInfo) (i : ClassInfo) (t : TypeRef) (c : ClassId) (ts : Vec TypeRef) → o ≡ Some i → i.superclass ≡ Some t → t ≡ ref.Class c ts
    → ts.items ≡ [] → (more : Tys) × (supertypes_in o ≡ cons (plain c.0) more)
superclass_first o i t c ts found above is none = (
  tys i.interfaces.items,
  ap supertypes_in found ∙ ap (λ (s : Option TypeRef). tys (with_superclass s i.interfaces.items)) above
      ∙ ap (λ u. cons u (tys i.interfaces.items)) (plain_type t c ts c.0 is refl none),
)
