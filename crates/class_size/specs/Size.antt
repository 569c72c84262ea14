-- Types that are too large, and the first of them that a header names.
use Rattle.std.specs.Prelude.{◌≡◌, ℕ, ◌<◌, List, [], ◌∷◌, ◌++◌, cond, Option, Some, None, slice_get}
use Rattle.dart_base.specs.declared.place.Place.{Place}
use Rattle.dart_base.specs.declared.limit.TheConstants.{TYPE_NODES}
use Rattle.dart_ir.specs.Ty.{Ty, Tys, class, ty}
use Rattle.dart_ir.specs.Classes.{class_at, direct_supertypes}
use Rattle.dart_ir.specs.declared.types.TypeRef.{TypeRef}
use Rattle.dart_ir.specs.declared.class.ClassInfo.{ClassInfo}
use Rattle.dart_ir.specs.declared.class.Classes.{Classes}
use Rattle.dart_type.specs.Instance.{instance, node_count}
use Rattle.class_fault.specs.declared.program.HeaderType.{HeaderType}
use Rattle.class_fault.specs.declared.program.Declaration.{Declaration}
use Rattle.class_table.specs.Renumbered.{renumbered}

-- A type stands above a class: it is a direct supertype with the class's arguments put in, or it stands above one.
pub data IsAbove (k : Classes) : Ty → Ty → Type 0 where
  direct : (c j : ℕ) (ts : Tys) (i : ClassInfo) (u : TypeRef) → class_at k c ≡ Some i
      → slice_get (direct_supertypes i) j ≡ Some u → IsAbove k (class c ts) (instance ts (ty u))
  further : (c j : ℕ) (ts : Tys) (i : ClassInfo) (u : TypeRef) (v : Ty) → class_at k c ≡ Some i
      → slice_get (direct_supertypes i) j ≡ Some u → IsAbove k (instance ts (ty u)) v
      → IsAbove k (class c ts) v

-- a type has more nodes than a type may have
abbrev pub IsLarge : Ty → Type 0
IsLarge t = TYPE_NODES < node_count t

-- a large type stands above it
abbrev pub IsLargeAbove : Classes → Ty → Type 0
IsLargeAbove k t = (v : Ty) × IsAbove k t v × IsLarge v

-- it is large, or one that stands above it is
pub data IsTooLarge (k : Classes) (t : Ty) : Type 0 where
  itself : IsLarge t → IsTooLarge k t
  above : IsLargeAbove k t → IsTooLarge k t

abbrev pub option_list : Option HeaderType → List HeaderType
option_list None = []
option_list (Some t) = t ∷ []

-- the types that a header names, in source order
abbrev pub header_list : Declaration → List HeaderType
header_list i = option_list i.superclass ++ i.mixins.items ++ i.interfaces.items

-- those of a class of a user's file
abbrev pub user_types : Declaration → List HeaderType
user_types i = cond i.standing.is_user (header_list i) []

abbrev pub all_user_types : List Declaration → List HeaderType
all_user_types [] = []
all_user_types (i ∷ is) = user_types i ++ all_user_types is

-- The place of the first header type that is too large, or none, where the table has these numbers for declarations.
pub data IsFirst (k : Classes) (ns : List ℕ) : List HeaderType → Option Place → Type 0 where
  no_more : IsFirst k ns [] None
  here : (t : HeaderType) (ts : List HeaderType) → IsTooLarge k (renumbered ns (ty t.of))
      → IsFirst k ns (t ∷ ts) (Some t.place)
  later : (t : HeaderType) (ts : List HeaderType) (found : Option Place)
      → (IsTooLarge k (renumbered ns (ty t.of)) → ⊥) → IsFirst k ns ts found → IsFirst k ns (t ∷ ts) found
