-- Types that are formed: classes are declared, and have as many arguments as type parameters; type parameters stand there.
use Rattle.std.specs.Prelude.{◌≡◌, ℕ, ◌+◌, ◌<◌, List, length, Some, slice_get}
use Rattle.dart_ir.specs.Ty.{TysOf, NamedTysOf, class, parameter, function, nil, cons, unnamed, named}
use Rattle.translation.specs.Surroundings.{Text, Ty, Tables}
use Rattle.translation.specs.Types.{tys}
use Rattle.class_source.specs.Rows.{HeaderType, Member, Class}

abbrev pub count : TysOf Text → ℕ
count nil = 0
count (cons t ts) = 1 + count ts

-- one over so many classes and type parameters
abbrev mutual
  pub IsFormed : Tables → ℕ → ℕ → Ty → Type 0
  IsFormed tables classes n (class c ts) =
      (c < classes) × (count ts ≡ tables.parameters c) × AreFormed tables classes n ts
  IsFormed tables classes n (parameter i) = i < n
  IsFormed tables classes n (function result required optional names) = IsFormed tables classes n result
      × AreFormed tables classes n required × AreFormed tables classes n optional × AreNamedFormed tables classes n names
  IsFormed tables classes n _ = Unit {0}

  pub AreFormed : Tables → ℕ → ℕ → TysOf Text → Type 0
  AreFormed tables classes n nil = Unit {0}
  AreFormed tables classes n (cons t ts) = IsFormed tables classes n t × AreFormed tables classes n ts

  pub AreNamedFormed : Tables → ℕ → ℕ → NamedTysOf Text → Type 0
  AreNamedFormed tables classes n unnamed = Unit {0}
  AreNamedFormed tables classes n (named name t ts) = IsFormed tables classes n t × AreNamedFormed tables classes n ts

-- no function type stands in it
abbrev mutual
  pub IsPlain : Ty → Type 0
  IsPlain (class c ts) = ArePlain ts
  IsPlain (function result required optional names) = ⊥
  IsPlain _ = Unit {0}

  pub ArePlain : TysOf Text → Type 0
  ArePlain nil = Unit {0}
  ArePlain (cons t ts) = IsPlain t × ArePlain ts

-- What an alias stands for is formed where its arguments are.
abbrev pub AreAliasesFormed : Tables → ℕ → ℕ → Type 0
AreAliasesFormed tables classes n = (k : ℕ) (given : List Ty) → AreFormed tables classes n (tys given)
    → IsFormed tables classes n (tables.alias_type k given)

abbrev pub IsHeaderFormed : Tables → ℕ → ℕ → HeaderType → Type 0
IsHeaderFormed tables classes n t = IsFormed tables classes n t.of × IsPlain t.of

abbrev pub AreHeadersFormed : Tables → ℕ → ℕ → List HeaderType → Type 0
AreHeadersFormed tables classes n ts = (j : ℕ) (t : HeaderType) → slice_get ts j ≡ Some t
    → IsHeaderFormed tables classes n t

-- A declaration whose types are formed over its type parameters; in its header stands no function type.
pub record IsRowFormed (tables : Tables) (classes : ℕ) (c : Class) : Type 0 where
  pub bounds : (j : ℕ) (b : Ty) → slice_get c.bounds j ≡ Some (Some b) → IsFormed tables classes (length c.bounds) b
  pub superclass : (t : HeaderType) → c.superclass ≡ Some t → IsHeaderFormed tables classes (length c.bounds) t
  pub mixins : AreHeadersFormed tables classes (length c.bounds) c.mixins
  pub interfaces : AreHeadersFormed tables classes (length c.bounds) c.interfaces
  pub members : (j : ℕ) (m : Member) → slice_get c.members j ≡ Some m
      → IsFormed tables classes (length c.bounds) m.signature
