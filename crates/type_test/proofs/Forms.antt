-- Types that are formed.
use Rattle.std.proofs.Common.{◌≡◌, ℕ, suc, ◌<◌, List, [], ◌∷◌, length, Bool, true, false, ◌&&◌, IsTrue, nat_eq, nat_lt, refl, sym, ap, ◌∙◌, arith}
use Rattle.std.proofs.lemmas.Bool.{ltb-true, lt-ltb, eqb-true, eq-eqb}
use Rattle.dart_ir.specs.Ty.{Ty, Tys, NamedTys, dynamic, bottom, void, class, parameter, function, nil, cons, unnamed, named, tys}
use Rattle.dart_ir.specs.Classes.{count, class_at, parameter_count, IsFormed, AreFormed, AreNamedFormed}
use Rattle.dart_ir.specs.declared.types.TypeRef.{TypeRef}
use Rattle.dart_ir.specs.declared.class.Classes.{Classes}
use Rattle.type_test.specs.Test.{is_formed, are_formed, are_named_formed}

pub counts : (ts : List TypeRef) → count (tys ts) ≡ length ts
counts [] = refl
counts (t ∷ ts) = ap suc (counts ts)

first_of_both : (a b : Bool) → IsTrue (a && b) → IsTrue a
first_of_both true b h = refl
first_of_both false b h = h

second_of_both : (a b : Bool) → IsTrue (a && b) → IsTrue b
second_of_both true b h = h
second_of_both false b h = absurd (cc)

both : (a b : Bool) → IsTrue a → IsTrue b → IsTrue (a && b)
both true b h i = i
both false b h i = absurd (cc)

module _ (k : Classes) where
  mutual
    pub formed : (t : Ty) → IsTrue (is_formed k t) → IsFormed k 0 t
    formed dynamic h = tt
    formed bottom h = tt
    formed void h = tt
    formed (class c ts) h =
        let a = first_of_both (nat_lt c (length k.classes.items)) (nat_eq (count ts) (parameter_count (class_at k c)) && are_formed k ts) h in
        let r = second_of_both (nat_lt c (length k.classes.items)) (nat_eq (count ts) (parameter_count (class_at k c)) && are_formed k ts) h in
        let b = first_of_both (nat_eq (count ts) (parameter_count (class_at k c))) (are_formed k ts) r in
        let d = second_of_both (nat_eq (count ts) (parameter_count (class_at k c))) (are_formed k ts) r in
        (ltb-true c (length k.classes.items) a, eqb-true (count ts) (parameter_count (class_at k c)) b, all_formed ts d)
    formed (parameter i) h = absurd (cc)
    formed (function r q o n) h =
        let b = second_of_both (is_formed k r) (are_formed k q && (are_formed k o && are_named_formed k n)) h in
        let d = second_of_both (are_formed k q) (are_formed k o && are_named_formed k n) b in (
          formed r (first_of_both (is_formed k r) (are_formed k q && (are_formed k o && are_named_formed k n)) h),
          all_formed q (first_of_both (are_formed k q) (are_formed k o && are_named_formed k n) b),
          all_formed o (first_of_both (are_formed k o) (are_named_formed k n) d),
          named_formed n (second_of_both (are_formed k o) (are_named_formed k n) d),
        )

    all_formed : (ts : Tys) → IsTrue (are_formed k ts) → AreFormed k 0 ts
    all_formed nil h = tt
    all_formed (cons t ts) h = (formed t (first_of_both (is_formed k t) (are_formed k ts) h), all_formed ts (second_of_both (is_formed k t) (are_formed k ts) h))

    named_formed : (ts : NamedTys) → IsTrue (are_named_formed k ts) → AreNamedFormed k 0 ts
    named_formed unnamed h = tt
    named_formed (named x t ts) h =
        (formed t (first_of_both (is_formed k t) (are_named_formed k ts) h), named_formed ts (second_of_both (is_formed k t) (are_named_formed k ts) h))

  mutual
    pub form : (t : Ty) → IsFormed k 0 t → IsTrue (is_formed k t)
    form dynamic h = refl
    form bottom h = refl
    form void h = refl
    form (class c ts) h =
        both (nat_lt c (length k.classes.items)) (nat_eq (count ts) (parameter_count (class_at k c)) && are_formed k ts) (lt-ltb c (length k.classes.items) h.0)
        (both (nat_eq (count ts) (parameter_count (class_at k c))) (are_formed k ts) (eq-eqb (count ts) (parameter_count (class_at k c)) h.1) (all_form ts h.2))
    form (parameter i) h = absurd (omega (arith, h))
    form (function r q o n) h =
        both (is_formed k r) (are_formed k q && (are_formed k o && are_named_formed k n)) (form r h.0)
        (both (are_formed k q) (are_formed k o && are_named_formed k n) (all_form q h.1)
        (both (are_formed k o) (are_named_formed k n) (all_form o h.2) (named_form n h.3)))

    all_form : (ts : Tys) → AreFormed k 0 ts → IsTrue (are_formed k ts)
    all_form nil h = refl
    all_form (cons t ts) h = both (is_formed k t) (are_formed k ts) (form t h.0) (all_form ts h.1)

    named_form : (ts : NamedTys) → AreNamedFormed k 0 ts → IsTrue (are_named_formed k ts)
    named_form unnamed h = refl
    named_form (named x t ts) h = both (is_formed k t) (are_named_formed k ts) (form t h.0) (named_form ts h.1)
