-- Means of proof, which no public contract cites: bounds on the sizes of the types above a class.
use Rattle.std.specs.Prelude.{◌≡◌, ℕ, ◌<◌, ◌≤◌, ◌*◌, ◌⊎◌, List, [], ◌∷◌, Some, slice_get}
use Rattle.dart_base.specs.declared.limit.TheConstants.{TYPE_NODES}
use Rattle.dart_ir.specs.Ty.{Ty, Tys, class, nil, cons, ty}
use Rattle.dart_ir.specs.declared.types.TypeRef.{TypeRef}
use Rattle.dart_ir.specs.declared.class.Classes.{Classes}
use Rattle.dart_type.specs.Instance.{instance, node_count}
use Rattle.class_size.specs.Size.{IsAbove, IsTooLarge}

-- each of the types has at most n nodes
abbrev pub AreAtMost : ℕ → Tys → Type 0
AreAtMost n nil = Unit {0}
AreAtMost n (cons t ts) = (node_count t ≤ n) × AreAtMost n ts

-- Where each argument of a class has at most m nodes, each type above it has at most b times as many.
abbrev pub IsBound : Classes → ℕ → ℕ → Type 0
IsBound k c b = b ≤ TYPE_NODES → (ts : Tys) (m : ℕ) (v : Ty) → AreAtMost m ts → 0 < m → IsAbove k (class c ts) v
    → node_count v ≤ b * m

abbrev pub AreBounds : Classes → List ℕ → Type 0
AreBounds k bs = (c b : ℕ) → slice_get bs c ≡ Some b → IsBound k c b

-- the same of a type with the arguments put in, and of each type above it
abbrev pub IsTypeBound : Classes → ℕ → Ty → Type 0
IsTypeBound k b t = b ≤ TYPE_NODES → (ts : Tys) (m : ℕ) → AreAtMost m ts → 0 < m
    → (node_count (instance ts t) ≤ b * m) × ((v : Ty) → IsAbove k (instance ts t) v → node_count v ≤ b * m)

abbrev pub AreTypeBounds : Classes → ℕ → List TypeRef → Type 0
AreTypeBounds k b us = (j : ℕ) (u : TypeRef) → slice_get us j ≡ Some u → IsTypeBound k b (ty u)

-- one of the types, with arguments put in, is too large
abbrev pub HasLarge : Classes → Tys → List TypeRef → Type 0
HasLarge k ts [] = ⊥
HasLarge k ts (u ∷ us) = IsTooLarge k (instance ts (ty u)) ⊎ HasLarge k ts us

-- Where some arguments have at most n nodes each, others have at most m times as many.
abbrev pub IsScaled : Tys → Tys → ℕ → Type 0
IsScaled us ws m = (n : ℕ) → AreAtMost n us → AreAtMost (n * m) ws

-- A bound on the types above a class with arguments that are scaled.
abbrev pub IsBoundAbove : Classes → ℕ → ℕ → Tys → Type 0
IsBoundAbove k b c us = b ≤ TYPE_NODES → (ws : Tys) (m : ℕ) (v : Ty) → 0 < m → IsScaled us ws m → IsAbove k (class c ws) v
    → node_count v ≤ b * m

-- the number of the class of a type
abbrev pub rank : Ty → ℕ
rank (class c ts) = c
rank _ = 0
