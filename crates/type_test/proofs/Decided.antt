-- The test is true exactly where there is a derivation.
use Rattle.std.proofs.Common.{◌≡◌, ◌↔◌, ◌⊎◌, inl, inr, ℕ, zero, suc, ◌<◌, List, [], ◌∷◌, length, Bool, true, false, ◌&&◌, ◌||◌, IsTrue, refl, sym, ap, ◌∙◌, arith, subst as transport}
use Rattle.dart_ir.specs.Ty.{Ty}
use Rattle.dart_ir.specs.Classes.{IsValid, IsFormed}
use Rattle.dart_ir.specs.declared.class.Classes.{Classes}
use Rattle.dart_type.specs.Relation.{Table, table_of, floor, Derives, IsSubtype}
use Rattle.dart_type.specs.Search.{Goal, goals, measure, largest, largest_of, AnyWay, AllClauses}
use Rattle.dart_type.proofs.Decided.{Holds, clauses_sound, clauses_complete}
use Rattle.dart_type.proofs.Measure.{goals_fall}
use Rattle.dart_type.proofs.Ordered.{IsOrdered, ordered}
use Rattle.evaluation.specs.Checks.{DecidesSubtypes}
use Rattle.type_test.specs.Test.{is_formed, any_way, all_clauses, holds_within, is_subtype}
use Rattle.type_test.proofs.Forms.{formed, form}

or_says : (x y : Bool) (P Q : Type 0) → IsTrue x ↔ P → IsTrue y ↔ Q → IsTrue (x || y) ↔ (P ⊎ Q)
or_says true y P Q p q = (λ e. inl (p.0 refl), λ w. refl)
or_says false y P Q p q = (λ e. inr (q.0 e), λ w. elim w [ inl a ↦ absurd (let e = p.1 a in cc) | inr a ↦ q.1 a ])

and_says : (x y : Bool) (P Q : Type 0) → IsTrue x ↔ P → IsTrue y ↔ Q → IsTrue (x && y) ↔ (P × Q)
and_says true y P Q p q = (λ e. (p.0 refl, q.0 e), λ w. q.1 w.1)
and_says false y P Q p q = (λ e. absurd (cc), λ w. absurd (let e = p.1 w.0 in cc))

module _ (k : Table) (n m : ℕ) (f : (g : Goal) → measure k n g < m → IsTrue (holds_within m k g) ↔ Holds k g) where
  any_says : (gs : List Goal) → largest k n gs < m → IsTrue (any_way (holds_within m k) gs) ↔ AnyWay (Holds k) gs
  any_says [] h = (λ e. absurd (cc), λ w. absurd w)
  any_says (g ∷ gs) h =
      or_says (holds_within m k g) (any_way (holds_within m k) gs) (Holds k g) (AnyWay (Holds k) gs) (f g (omega (arith, h))) (any_says gs (omega (arith, h)))

  all_say : (cs : List (List Goal)) → largest_of k n cs < m → IsTrue (all_clauses (holds_within m k) cs) ↔ AllClauses (Holds k) cs
  all_say [] h = (λ e. tt, λ w. refl)
  all_say (c ∷ cs) h =
      and_says (any_way (holds_within m k) c) (all_clauses (holds_within m k) cs) (AnyWay (Holds k) c) (AllClauses (Holds k) cs)
      (any_says c (omega (arith, h))) (all_say cs (omega (arith, h)))

module _ (k : Table) (n : ℕ) (o : IsOrdered k n) where
  within : (m : ℕ) (g : Goal) → measure k n g < m → IsTrue (holds_within m k g) ↔ Holds k g
  unfolding holds_within
  within zero g h = absurd (omega (arith, h))
  within (suc m) g h =
      let l = goals_fall k n o g.0 g.1 in
      let w = all_say k n m (within m) (goals k g.0 g.1) (omega (arith, h, l)) in
      (λ e. clauses_sound k g.0 g.1 (w.0 e), λ d. w.1 (clauses_complete k n o g.0 g.1 d))

same_truth : (a b : Bool) (P : Type 0) → IsTrue a ↔ P → IsTrue b ↔ P → a ≡ b
same_truth true true P p q = refl
same_truth true false P p q = absurd (let e = q.1 (p.0 refl) in cc)
same_truth false true P p q = absurd (let e = p.1 (q.0 refl) in cc)
same_truth false false P p q = refl

both_true : (a b c : Bool) → a ≡ true → b ≡ true → (a && (b && c)) ≡ c
both_true true true c h i = refl
both_true true false c h i = absurd (cc)
both_true false b c h i = absurd (cc)

decides_formed : (k : Classes) → IsValid k → (t s : Ty) → is_formed k t ≡ true → is_formed k s ≡ true → IsTrue (is_subtype k t s) ↔ IsSubtype (table_of k) t s
unfolding is_subtype
decides_formed k v t s a b =
    let g : Goal = (floor t, s) in
    let m = measure (table_of k) (length k.classes.items) g in
    let e = both_true (is_formed k t) (is_formed k s) (holds_within (suc m) (table_of k) g) a b in
    transport (λ x. IsTrue x ↔ IsSubtype (table_of k) t s) (sym e) (within (table_of k) (length k.classes.items) (ordered k v) (suc m) g (omega arith))

pub test_says : (k : Classes) → IsValid k → (t s : Ty) (b : Bool) → is_formed k t ≡ true → is_formed k s ≡ true → IsTrue b ↔ IsSubtype (table_of k) t s → b ≡ is_subtype k t s
test_says k v t s b f g h = same_truth b (is_subtype k t s) (IsSubtype (table_of k) t s) h (decides_formed k v t s f g)

pub first_not : (k : Classes) (t s : Ty) → is_formed k t ≡ false → false ≡ is_subtype k t s
unfolding is_subtype
first_not k t s e = sym (ap (λ b. b && (is_formed k s && holds_within (suc (measure (table_of k) (length k.classes.items) (floor t, s))) (table_of k) (floor t, s))) e)

none : (a b : Bool) → (a && (false && b)) ≡ false
none true b = refl
none false b = refl

pub second_not : (k : Classes) (t s : Ty) → is_formed k s ≡ false → false ≡ is_subtype k t s
unfolding is_subtype
second_not k t s e =
    let h = holds_within (suc (measure (table_of k) (length k.classes.items) (floor t, s))) (table_of k) (floor t, s) in
    sym (ap (λ b. is_formed k t && (b && h)) e ∙ none (is_formed k t) h)

pub decides : (k : Classes) → IsValid k → DecidesSubtypes k (is_subtype k)
decides k v = record { decides = λ t s f g. decides_formed k v t s (form k t f) (form k s g) }
