-- Means of proof, which no public contract cites. Classes without type parameters that stand above one another (ECMA-408, 10.9
-- Superclasses).
use Rattle.std.specs.Prelude.{◌≡◌, ◌≤◌, ℕ, suc, List, [], ◌∷◌, true}
use Rattle.dart_ir.specs.Ty.{Ty, Tys, class, nil, cons}
use Rattle.dart_ir.specs.declared.class.Classes.{Classes}
use Rattle.dart_type.specs.Instance.{instance}
use Rattle.dart_type.specs.Relation.{floor, table_of}
use Rattle.type_test.specs.Test.{holds_within, is_formed}

-- the first type directly above the one is the other
abbrev pub IsPlainSuperclass : Classes → ℕ → ℕ → Type 0
IsPlainSuperclass k c e = (more : Tys) × ((table_of k).supertypes c ≡ cons (class e nil) more)

-- A comparison of the two holds, where so many are looked at one inside another.
abbrev pub IsReached : Classes → ℕ → ℕ → ℕ → Type 0
IsReached k c d levels = (n : ℕ) → levels ≤ n → holds_within (suc n) (table_of k) (class c nil, class d nil) ≡ true

-- a class that is listed and has no type parameters
pub record IsPlainType (k : Classes) (t : Ty) : Type 0 where
  pub number : ℕ
  pub is : t ≡ class number nil
  pub formed : is_formed k (class number nil) ≡ true

-- A type argument that is below another one, whatever is put in, by a comparison of one level.
pub record Fits (k : Classes) (t u : Ty) : Type 0 where
  pub closed : (args : Tys) → instance args u ≡ u
  pub formed : is_formed k t ≡ true
  pub formed_too : is_formed k u ≡ true
  pub holds : (n : ℕ) → holds_within (suc n) (table_of k) (floor t, u) ≡ true

abbrev pub AllFit : Classes → List Ty → List Ty → Type 0
AllFit k [] [] = Unit {0}
AllFit k (t ∷ ts) (u ∷ us) = Fits k t u × AllFit k ts us
AllFit k ts us = ⊥
