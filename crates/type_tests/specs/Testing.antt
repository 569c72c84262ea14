-- Means of proof, which no public contract cites: what the tests ask of a direct supertype.
use Rattle.std.specs.Prelude.{◌≡◌, ℕ, ◌<◌, [], Bool, true, Option, Some, None, IsSome, length}
use Rattle.dart_ir.specs.Ty.{Ty, ty}
use Rattle.dart_ir.specs.Classes.{IsEarlierClass, IsFormed, HasCallAbove, IsFunctionClass, class_at, direct_supertypes}
use Rattle.dart_ir.specs.declared.types.TypeRef.{TypeRef}
use Rattle.dart_ir.specs.declared.class.ClassInfo.{ClassInfo}
use Rattle.dart_ir.specs.declared.class.Classes.{Classes}

pub record IsSupertype (k : Classes) (c n : ℕ) (callable : Bool) (u : Ty) : Type 0 where
  pub earlier : IsEarlierClass c u
  pub formed : IsFormed k n u
  pub inherited : HasCallAbove k u → callable ≡ true

abbrev pub IsOptionalSupertype : Classes → ℕ → ℕ → Bool → Option TypeRef → Type 0
IsOptionalSupertype k c n callable None = Unit {0}
IsOptionalSupertype k c n callable (Some u) = IsSupertype k c n callable (ty u)

pub record HasSuperclass (k : Classes) (c n : ℕ) (i : ClassInfo) : Type 0 where
  pub object : c ≡ 0 → direct_supertypes i ≡ []
  pub superclass : 0 < c → IsSome i.superclass
  pub supertype : IsOptionalSupertype k c n i.callable i.superclass

pub record HasFunction (k : Classes) : Type 0 where
  pub listed : k.function.0 < length k.classes.items
  pub is_function : (i : ClassInfo) → class_at k k.function.0 ≡ Some i → IsFunctionClass i
