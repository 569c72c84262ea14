-- A class is below itself where its type arguments are the same, or one of each two is `dynamic`.
use Rattle.std.proofs.Common.{◌≡◌, ◌<◌, ◌+◌, ◌*◌, ℕ, zero, suc, List, [], ◌∷◌, length, true, ◌&&◌, ◌||◌, cond, nat_eq, nat_lt, refl, sym, ap, ◌∙◌, arith}
use Rattle.std.proofs.Math.Nat.{mul-pos}
use Rattle.std.proofs.lemmas.Bool.{eq-eqb}
use Rattle.dart_ir.specs.Ty.{Ty, Tys, dynamic, bottom, class, nil, cons, of_list}
use Rattle.dart_ir.specs.Object.{of}
use Rattle.dart_ir.specs.declared.class.Classes.{Classes}
use Rattle.dart_ir.specs.Classes.{class_at, count, parameter_count}
use Rattle.dart_type.specs.Instance.{instance, instances, node_counts}
use Rattle.dart_type.specs.Relation.{floor, floors, table_of}
use Rattle.dart_type.specs.Search.{Goal, above, each_below, facing, measure, wides}
use Rattle.type_test.specs.Test.{is_formed, are_formed, is_subtype, holds_within, all_clauses, any_way}
use Rattle.evaluation.specs.Checks.{is_of_type}
use Rattle.evaluation.specs.Classes.{type_list}
use Rattle.machine_frame.specs.declared.around.Around.{Around}
use Rattle.machine_frame.specs.Above.{AllFit, Fits, IsPlainType}
use Rattle.machine_frame.specs.Outside.{checking_of}
use Rattle.machine_frame.proofs.Admitted.{itself}

pub listed : (ts : List Ty) → type_list (of_list ts) ≡ ts
listed [] = refl
listed (t ∷ ts) = ap (λ l. t ∷ l) (listed ts)

-- ---- single types

pub formed_alone : (k : Classes) (c : ℕ) → nat_lt c (length k.classes.items) ≡ true → parameter_count (class_at k c) ≡ 0 → is_formed k (class c nil) ≡ true
formed_alone k c listed none =
    ap (λ b. b && (nat_eq 0 (parameter_count (class_at k c)) && true)) listed ∙ ap (λ b. b && true) (eq-eqb 0 (parameter_count (class_at k c)) (sym none))

plain_closed : (k : Classes) (u : Ty) (p : IsPlainType k u) (args : Tys) → instance args u ≡ u
plain_closed k u p args = ap (instance args) p.is ∙ sym p.is

plain_formed : (k : Classes) (u : Ty) → IsPlainType k u → is_formed k u ≡ true
plain_formed k u p = ap (is_formed k) p.is ∙ p.formed

dynamic_closed : (u : Ty) → u ≡ dynamic → (args : Tys) → instance args u ≡ u
dynamic_closed u e args = ap (instance args) e ∙ sym e

below_dynamic : (k : Classes) (t : Ty) (n : ℕ) → holds_within (suc n) (table_of k) (t, dynamic) ≡ true
unfolding holds_within
below_dynamic k t n = refl

bottom_below : (k : Classes) (c n : ℕ) → holds_within (suc n) (table_of k) (bottom, class c nil) ≡ true
unfolding holds_within
bottom_below k c n = refl

pub both_dynamic : (k : Classes) (t u : Ty) → t ≡ dynamic → u ≡ dynamic → Fits k t u
both_dynamic k t u e f =
    record {
      closed = dynamic_closed u f;
      formed = ap (is_formed k) e;
      formed_too = ap (is_formed k) f;
      holds = λ n. ap (λ u. holds_within (suc n) (table_of k) (floor t, u)) f ∙ below_dynamic k (floor t) n;
    }

pub first_dynamic : (k : Classes) (t u : Ty) → t ≡ dynamic → IsPlainType k u → Fits k t u
first_dynamic k t u e p =
    record {
      closed = plain_closed k u p;
      formed = ap (is_formed k) e;
      formed_too = plain_formed k u p;
      holds = λ n. ap (λ t. holds_within (suc n) (table_of k) (floor t, u)) e ∙ ap (λ u. holds_within (suc n) (table_of k) (bottom, u)) p.is ∙ bottom_below k p.number n;
    }

pub second_dynamic : (k : Classes) (t u : Ty) → IsPlainType k t → u ≡ dynamic → Fits k t u
second_dynamic k t u p f =
    record {
      closed = dynamic_closed u f;
      formed = plain_formed k t p;
      formed_too = ap (is_formed k) f;
      holds = λ n. ap (λ u. holds_within (suc n) (table_of k) (floor t, u)) f ∙ below_dynamic k (floor t) n;
    }

pub same_fit : (k : Classes) (t u : Ty) → IsPlainType k t → t ≡ u → Fits k t u
same_fit k t u p e =
    let is : u ≡ class p.number nil = sym e ∙ p.is in
    record {
      closed = λ args. ap (instance args) is ∙ sym is;
      formed = plain_formed k t p;
      formed_too = ap (is_formed k) is ∙ p.formed;
      holds = λ n. ap (λ t. holds_within (suc n) (table_of k) (floor t, u)) p.is ∙ ap (λ u. holds_within (suc n) (table_of k) (class p.number nil, u)) is ∙ itself k p.number p.number n refl;
    }

-- ---- lists of them

instances_same : (k : Classes) (args : Tys) (ts us : List Ty) → AllFit k ts us → instances args (of_list us) ≡ of_list us
instances_same k args [] [] p = refl
instances_same k args (t ∷ ts) (u ∷ us) p =
    ap (λ l. cons (instance args u) l) (instances_same k args ts us p.1) ∙ ap (λ u. cons u (of_list us)) (p.0.closed args)
instances_same k args [] (u ∷ us) p = absurd p
instances_same k args (t ∷ ts) [] p = absurd p

formed_first : (k : Classes) (ts us : List Ty) → AllFit k ts us → are_formed k (of_list ts) ≡ true
formed_first k [] [] p = refl
formed_first k (t ∷ ts) (u ∷ us) p = ap (λ b. b && are_formed k (of_list ts)) p.0.formed ∙ formed_first k ts us p.1
formed_first k [] (u ∷ us) p = absurd p
formed_first k (t ∷ ts) [] p = absurd p

formed_second : (k : Classes) (ts us : List Ty) → AllFit k ts us → are_formed k (of_list us) ≡ true
formed_second k [] [] p = refl
formed_second k (t ∷ ts) (u ∷ us) p = ap (λ b. b && are_formed k (of_list us)) p.0.formed_too ∙ formed_second k ts us p.1
formed_second k [] (u ∷ us) p = absurd p
formed_second k (t ∷ ts) [] p = absurd p

as_many : (k : Classes) (ts us : List Ty) → AllFit k ts us → length ts ≡ length us
as_many k [] [] p = refl
as_many k (t ∷ ts) (u ∷ us) p = ap suc (as_many k ts us p.1)
as_many k [] (u ∷ us) p = absurd p
as_many k (t ∷ ts) [] p = absurd p

count_of : (ts : List Ty) → count (of_list ts) ≡ length ts
count_of [] = refl
count_of (t ∷ ts) = ap suc (count_of ts)

faced : (k : Classes) (n : ℕ) (ts us : List Ty) (ways : List Goal) → AllFit k ts us
    → all_clauses (holds_within (suc n) (table_of k)) (facing (floors (of_list ts)) (of_list us) ways) ≡ true
faced k n [] [] ways p = refl
faced k n (t ∷ ts) (u ∷ us) ways p =
    let holds = holds_within (suc n) (table_of k) in
    ap (λ b. (b || any_way holds ways) && all_clauses holds (facing (floors (of_list ts)) (of_list us) ways)) (p.0.holds n) ∙ faced k n ts us ways p.1
faced k n [] (u ∷ us) ways p = absurd p
faced k n (t ∷ ts) [] ways p = absurd p

-- ---- the class with them

held : (k : Classes) (c n : ℕ) (ts us : List Ty) → AllFit k ts us
    → holds_within (suc (suc n)) (table_of k) (class c (floors (of_list ts)), class c (of_list us)) ≡ true
unfolding holds_within
held k c n ts us p =
    let fs = floors (of_list ts) in
    let ways = each_below (above (table_of k) (class c fs)) (class c (of_list us)) in
    ap (λ b. all_clauses (holds_within (suc n) (table_of k)) (cond b (facing fs (of_list us) ways) (ways ∷ []))) (eq-eqb c c refl) ∙ faced k n ts us ways p

held_within : (k : Classes) (c n : ℕ) (ts us : List Ty) → 0 < n → AllFit k ts us
    → holds_within (suc n) (table_of k) (class c (floors (of_list ts)), class c (of_list us)) ≡ true
held_within k c zero ts us h p = absurd (omega (arith, h))
held_within k c (suc n) ts us h p = held k c n ts us p

formed : (k : Classes) (c : ℕ) (ts : List Ty) → nat_lt c (length k.classes.items) ≡ true → parameter_count (class_at k c) ≡ length ts → are_formed k (of_list ts) ≡ true
    → is_formed k (class c (of_list ts)) ≡ true
formed k c ts listed counted e =
    ap (λ b. b && (nat_eq (count (of_list ts)) (parameter_count (class_at k c)) && are_formed k (of_list ts))) listed
    ∙ ap (λ b. b && are_formed k (of_list ts)) (eq-eqb (count (of_list ts)) (parameter_count (class_at k c)) (count_of ts ∙ sym counted))
    ∙ e

below : (k : Classes) (c : ℕ) (ts us : List Ty) → nat_lt c (length k.classes.items) ≡ true → parameter_count (class_at k c) ≡ length us → AllFit k ts us
    → is_subtype k (class c (of_list ts)) (class c (of_list us)) ≡ true
unfolding is_subtype
below k c ts us listed counted p =
    let t = class c (of_list ts) in
    let u = class c (of_list us) in
    let fs = floors (of_list ts) in
    let n = length k.classes.items in
    let f = (table_of k).function_class in
    let m = measure (table_of k) n (class c fs, u) in
    let wide_enough : 0 < wides fs + (1 + node_counts (of_list us)) = omega arith in
    let far_enough : 0 < n + f + 3 = omega arith in
    let product : 0 < (wides fs + (1 + node_counts (of_list us))) * (n + f + 3) = mul-pos wide_enough far_enough in
    let enough : 0 < m = omega (arith, product) in
    ap (λ b. b && (is_formed k u && holds_within (suc m) (table_of k) (class c fs, u))) (formed k c ts listed (counted ∙ sym (as_many k ts us p)) (formed_first k ts us p))
    ∙ ap (λ b. b && holds_within (suc m) (table_of k) (class c fs, u)) (formed k c us listed counted (formed_second k ts us p))
    ∙ held_within k c m ts us enough p

-- A value of a class is of the type of that class whose arguments fit, whatever is put in.
pub is_of_class : (a : Around) (c : ℕ) (ts us : List Ty) (t : Ty) → t ≡ class c (of_list us) → nat_lt c (length a.program.now.classes.classes.items) ≡ true
    → parameter_count (class_at a.program.now.classes c) ≡ length us → AllFit a.program.now.classes ts us
    → (args : List Ty) → is_of_type (checking_of a) (of c ts) (instance (of_list args) t) ≡ true
is_of_class a c ts us t is listed counted p args =
    let k = a.program.now.classes in
    ap (λ t. is_of_type (checking_of a) (of c ts) (instance (of_list args) t)) is
    ∙ ap (λ l. is_of_type (checking_of a) (of c ts) (class c l)) (instances_same k (of_list args) ts us p)
    ∙ below k c ts us listed counted p
