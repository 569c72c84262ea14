-- When a table of classes is one that a program can have.
use Rattle.std.specs.Prelude.{◌≡◌, ◌≢◌, ℕ, ◌<◌, List, [], ◌∷◌, length, map, All, suc, Bool, true, false, Option, Some, None, IsSome, slice_get, IsTrue, ◌⊎◌}
use Rattle.dart_ir.specs.Ty.{Ty, Tys, NamedTys, dynamic, bottom, void, class, parameter, function, nil, cons, unnamed, named, ty, tys, function_ty}
use Rattle.dart_ir.specs.declared.number.MemberId.{MemberId}
use Rattle.dart_ir.specs.declared.types.TypeRef.{TypeRef}
use Rattle.dart_ir.specs.declared.class.ClassInfo.{ClassInfo}
use Rattle.dart_ir.specs.declared.class.MemberInfo.{MemberInfo}
use Rattle.dart_ir.specs.declared.class.Classes.{Classes}

abbrev pub with_superclass : Option TypeRef → List TypeRef → List TypeRef
with_superclass None us = us
with_superclass (Some u) us = u ∷ us

-- the superclass, where there is one, and then the interfaces
abbrev pub direct_supertypes : ClassInfo → List TypeRef
direct_supertypes c = with_superclass c.superclass c.interfaces.items

abbrev pub class_at : Classes → ℕ → Option ClassInfo
class_at k c = slice_get k.classes.items c

abbrev pub member_at : Classes → ℕ → Option MemberInfo
member_at k m = slice_get k.members.items m

abbrev pub count : Tys → ℕ
count nil = 0
count (cons t ts) = suc (count ts)

-- no function type stands in it
abbrev mutual
  pub IsPlain : Ty → Type 0
  IsPlain (class c ts) = ArePlain ts
  IsPlain (function r q o n) = ⊥
  IsPlain _ = Unit {0}

  pub ArePlain : Tys → Type 0
  ArePlain nil = Unit {0}
  ArePlain (cons t ts) = IsPlain t × ArePlain ts

-- how many type parameters a class has
abbrev pub parameter_count : Option ClassInfo → ℕ
parameter_count None = 0
parameter_count (Some c) = length c.bounds.items

-- Each class in it is listed and has as many arguments as parameters, and each type parameter is below n.
abbrev mutual
  pub IsFormed : Classes → ℕ → Ty → Type 0
  IsFormed k n (class c ts) = (c < length k.classes.items) × (count ts ≡ parameter_count (class_at k c)) × AreFormed k n ts
  IsFormed k n (parameter i) = i < n
  IsFormed k n (function r q o m) = IsFormed k n r × AreFormed k n q × AreFormed k n o × AreNamedFormed k n m
  IsFormed k n _ = Unit {0}

  pub AreFormed : Classes → ℕ → Tys → Type 0
  AreFormed k n nil = Unit {0}
  AreFormed k n (cons t ts) = IsFormed k n t × AreFormed k n ts

  pub AreNamedFormed : Classes → ℕ → NamedTys → Type 0
  AreNamedFormed k n unnamed = Unit {0}
  AreNamedFormed k n (named x t ts) = IsFormed k n t × AreNamedFormed k n ts

-- a class that is listed before class c, without function types among its arguments
abbrev pub IsEarlierClass : ℕ → Ty → Type 0
IsEarlierClass c (class e ts) = (e < c) × ArePlain ts
IsEarlierClass c _ = ⊥

abbrev pub HasCall : Option ClassInfo → Type 0
HasCall None = ⊥
HasCall (Some c) = c.callable ≡ true

abbrev pub HasCallAbove : Classes → Ty → Type 0
HasCallAbove k (class e ts) = HasCall (class_at k e)
HasCallAbove k _ = ⊥

abbrev pub IsBoundFormed : Classes → ℕ → Option TypeRef → Type 0
IsBoundFormed k n None = Unit {0}
IsBoundFormed k n (Some t) = IsFormed k n (ty t)

-- a member that class c lists
abbrev pub IsMemberOf : Classes → ℕ → Option MemberInfo → Type 0
IsMemberOf k c None = ⊥
IsMemberOf k c (Some m) = (m.owner.0 ≡ c) × IsFormed k (parameter_count (class_at k c)) (function_ty m.signature)

-- what holds of class number c
pub record IsValidClass (k : Classes) (c : ℕ) (i : ClassInfo) : Type 0 where
  -- `Object` comes first, and it alone has no superclass: so each chain of superclasses ends at it.
  pub object : c ≡ 0 → direct_supertypes i ≡ []
  pub superclass : 0 < c → IsSome i.superclass
  -- A class comes after its superclass and interfaces, and no function type stands in their arguments.
  pub supertypes : All (λ u. IsEarlierClass c (ty u)) (direct_supertypes i)
  pub formed : All (λ u. IsFormed k (length i.bounds.items) (ty u)) (direct_supertypes i)
  pub bounds : All (IsBoundFormed k (length i.bounds.items)) i.bounds.items
  pub members : All (λ m. IsMemberOf k c (member_at k m.0)) i.members.items
  -- `Function` comes before each class that has a method `call`, and such a method is inherited.
  pub call : i.callable ≡ true → k.function.0 < c
  pub inherited : All (λ u. HasCallAbove k (ty u) → i.callable ≡ true) (direct_supertypes i)

-- the class `Function`: no parameters, and nothing but `Object` above it
pub record IsFunctionClass (i : ClassInfo) : Type 0 where
  pub parameters : length i.bounds.items ≡ 0
  pub supertypes : map ty (direct_supertypes i) ≡ class 0 nil ∷ []

-- A table of classes that a program can have. Each number names an entry of its list.
pub record IsValid (k : Classes) : Type 0 where
  pub object : 0 < length k.classes.items
  pub function : (i : ClassInfo) → class_at k k.function.0 ≡ Some i → IsFunctionClass i
  pub has_function : k.function.0 < length k.classes.items
  pub classes : (c : ℕ) (i : ClassInfo) → class_at k c ≡ Some i → IsValidClass k c i
  -- the owner of each member is a class of the table
  pub members : (m : ℕ) (i : MemberInfo) → member_at k m ≡ Some i → i.owner.0 < length k.classes.items
