-- Programs whose class declarations are resolved.
use Rattle.std.specs.Prelude.{◌≡◌, ℕ, ◌<◌, ◌^◌, [], length, false, Option, Some, None, All}
use Rattle.dart_ir.specs.declared.types.TypeRef.{TypeRef}
use Rattle.dart_ir.specs.Ty.{Ty, Tys, NamedTys, class, parameter, function, nil, cons, unnamed, named, ty, function_ty}
use Rattle.dart_ir.specs.Classes.{count, ArePlain}
use Rattle.class_fault.specs.declared.program.HeaderType.{HeaderType}
use Rattle.class_fault.specs.declared.program.Declaration.{Declaration}
use Rattle.class_fault.specs.declared.program.Program.{Program}
use Rattle.class_fault.specs.Program.{declaration_at, declares_call}

abbrev pub parameters_in : Option Declaration → ℕ
parameters_in None = 0
parameters_in (Some d) = length d.bounds.items

-- Each class in it is declared and has as many arguments as parameters, and each type parameter is below n.
abbrev mutual
  pub IsFormedIn : Program → ℕ → Ty → Type 0
  IsFormedIn p n (class c ts) =
      (c < length p.declarations.items) × (count ts ≡ parameters_in (declaration_at p c)) × AreFormedIn p n ts
  IsFormedIn p n (parameter i) = i < n
  IsFormedIn p n (function r q o m) = IsFormedIn p n r × AreFormedIn p n q × AreFormedIn p n o × AreNamedFormedIn p n m
  IsFormedIn p n _ = Unit {0}

  pub AreFormedIn : Program → ℕ → Tys → Type 0
  AreFormedIn p n nil = Unit {0}
  AreFormedIn p n (cons t ts) = IsFormedIn p n t × AreFormedIn p n ts

  pub AreNamedFormedIn : Program → ℕ → NamedTys → Type 0
  AreNamedFormedIn p n unnamed = Unit {0}
  AreNamedFormedIn p n (named x t ts) = IsFormedIn p n t × AreNamedFormedIn p n ts

abbrev pub IsBoundFormedIn : Program → ℕ → Option TypeRef → Type 0
IsBoundFormedIn p n None = Unit {0}
IsBoundFormedIn p n (Some t) = IsFormedIn p n (ty t)

-- A class that a header names is formed, and no function type stands among its arguments. What is no class is refused.
abbrev pub IsHeaderTy : Program → ℕ → Ty → Type 0
IsHeaderTy p n (class c ts) = IsFormedIn p n (class c ts) × ArePlain ts
IsHeaderTy p n _ = Unit {0}

abbrev pub IsHeaderType : Program → ℕ → HeaderType → Type 0
IsHeaderType p n t = IsHeaderTy p n (ty t.of)

abbrev pub IsSuperclass : Program → ℕ → Option HeaderType → Type 0
IsSuperclass p n None = Unit {0}
IsSuperclass p n (Some t) = IsHeaderType p n t

-- a declaration whose types are formed over its type parameters
pub record IsDeclaration (p : Program) (i : Declaration) : Type 0 where
  pub few : length i.bounds.items < 2 ^ 32
  pub bounds : All (IsBoundFormedIn p (length i.bounds.items)) i.bounds.items
  pub superclass : IsSuperclass p (length i.bounds.items) i.superclass
  pub mixins : All (IsHeaderType p (length i.bounds.items)) i.mixins.items
  pub interfaces : All (IsHeaderType p (length i.bounds.items)) i.interfaces.items
  pub members : All (λ m. IsFormedIn p (length i.bounds.items) (function_ty m.signature)) i.members.items

-- a class without type parameters that names no class, and declares no method `call`
pub record IsRoot (p : Program) (i : Declaration) : Type 0 where
  pub parameters : length i.bounds.items ≡ 0
  pub superclass : i.superclass ≡ None
  pub mixins : i.mixins.items ≡ []
  pub interfaces : i.interfaces.items ≡ []
  pub call : declares_call p.call i ≡ false

-- What resolving names gives: types are formed, and the prelude declares Object and Function, two classes that name none.
pub record IsProgram (p : Program) : Type 0 where
  pub declarations : (d : ℕ) (i : Declaration) → declaration_at p d ≡ Some i → IsDeclaration p i
  pub has_object : p.object < length p.declarations.items
  pub has_function : p.function < length p.declarations.items
  pub object : (i : Declaration) → declaration_at p p.object ≡ Some i → IsRoot p i
  pub function : (i : Declaration) → declaration_at p p.function ≡ Some i → IsRoot p i
  pub two : p.object ≡ p.function → ⊥
