-- Types without boxes and capacities: two of them are equal exactly where they are the same type.
use Rattle.std.specs.Prelude.{ℕ, List, [], ◌∷◌, map}
use Rattle.dart_ir.specs.declared.types.TypeRef.{TypeRef}
use Rattle.dart_ir.specs.declared.types.FunctionType.{FunctionType}
use Rattle.dart_ir.specs.declared.types.NamedType.{NamedType}
use Rattle.dart_ir.specs.declared.types.TypeRef.TheOpen.{TypeRef-F, FunctionType-F, NamedType-F, Dynamic, Bottom, Void, Class, Param, Function}
use Rattle.dart_ir.specs.declared.types.TypeRef.TheFolds.{fold-TypeRef, fold-FunctionType, fold-NamedType}

-- a type in which a name of a parameter is an N: its number, or its text
mutual
  pub data TyOf (N : Type 0) : Type 0 where
    dynamic : TyOf N
    bottom : TyOf N
    void : TyOf N
    class : ℕ → TysOf N → TyOf N
    parameter : ℕ → TyOf N
    -- the result, the required and the optional positional parameters, and the named ones
    function : TyOf N → TysOf N → TysOf N → NamedTysOf N → TyOf N

  pub data TysOf (N : Type 0) : Type 0 where
    nil : TysOf N
    cons : TyOf N → TysOf N → TysOf N

  -- names of parameters with their types
  pub data NamedTysOf (N : Type 0) : Type 0 where
    unnamed : NamedTysOf N
    named : N → TyOf N → NamedTysOf N → NamedTysOf N

abbrev pub Ty : Type 0
Ty = TyOf ℕ

abbrev pub Tys : Type 0
Tys = TysOf ℕ

abbrev pub NamedTys : Type 0
NamedTys = NamedTysOf ℕ

abbrev pub of_list : List Ty → Tys
of_list [] = nil
of_list (t ∷ ts) = cons t (of_list ts)

abbrev pub of_named : List (ℕ × Ty) → NamedTys
of_named [] = unnamed
of_named (n ∷ ns) = named n.0 n.1 (of_named ns)

-- one form of type, over the types in it
abbrev pub type_form : TypeRef-F Ty Ty (ℕ × Ty) → Ty
type_form Dynamic = dynamic
type_form Bottom = bottom
type_form Void = void
type_form (Class c ts) = class c.0 (of_list ts.items)
type_form (Param i) = parameter i
type_form (Function f) = f.value

abbrev pub function_form : FunctionType-F Ty Ty (ℕ × Ty) → Ty
function_form f = function f.result (of_list f.required.items) (of_list f.optional.items) (of_named f.named.items)

abbrev pub named_form : NamedType-F Ty Ty (ℕ × Ty) → ℕ × Ty
named_form n = (n.name.0, n.of)

-- the type that a value of the program stands for
unfoldable pub ty : TypeRef → Ty
ty = fold-TypeRef Ty Ty (ℕ × Ty) type_form function_form named_form

unfoldable pub function_ty : FunctionType → Ty
function_ty = fold-FunctionType Ty Ty (ℕ × Ty) type_form function_form named_form

unfoldable pub named_ty : NamedType → ℕ × Ty
named_ty = fold-NamedType Ty Ty (ℕ × Ty) type_form function_form named_form

-- the types of a list
abbrev pub tys : List TypeRef → Tys
tys ts = of_list (map ty ts)

-- the named parameters of a list
abbrev pub named_tys : List NamedType → NamedTys
named_tys ns = of_named (map named_ty ns)
