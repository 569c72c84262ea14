-- How each form of type is seen.
use Rattle.std.proofs.Common.{◌≡◌, ℕ, List, [], ◌∷◌, map, refl, ap, ◌∙◌, sym}
use Rattle.std.specs.Global.{Vec, Box}
use Rattle.dart_ir.specs.declared.number.ClassId.{ClassId}
use Rattle.dart_ir.specs.Ty.{Ty, Tys, NamedTys, dynamic, bottom, void, parameter, class, function, type_form, function_form, named_form, ty, function_ty, named_ty, tys, named_tys}
use Rattle.dart_ir.specs.declared.types.FunctionType.{FunctionType}
use Rattle.dart_ir.specs.declared.types.NamedType.{NamedType}
use Rattle.dart_ir.specs.declared.types.TypeRef.{TypeRef, Dynamic, Bottom, Void, Param, Class, Function}
use Rattle.dart_ir.specs.declared.types.TypeRef.TheOpen as layer
use Rattle.dart_ir.specs.declared.types.TypeRef.TheVariants.{rolls-Dynamic, rolls-Bottom, rolls-Void, rolls-Class, rolls-Param, rolls-Function}
use Rattle.dart_ir.specs.declared.types.TypeRef.TheViews.{roll-FunctionType, out-FunctionType, roll-NamedType, out-NamedType}
use Rattle.dart_ir.specs.declared.types.TypeRef.TheFolds.{fold-roll-TypeRef, fold-roll-FunctionType, fold_out-FunctionType, fold-roll-NamedType, fold_out-NamedType}

pub ty_dynamic : ty Dynamic ≡ dynamic
unfolding ty
ty_dynamic = ap ty (sym rolls-Dynamic) ∙ fold-roll-TypeRef Ty Ty (ℕ × Ty) type_form function_form named_form layer.Dynamic

pub ty_bottom : ty Bottom ≡ bottom
unfolding ty
ty_bottom = ap ty (sym rolls-Bottom) ∙ fold-roll-TypeRef Ty Ty (ℕ × Ty) type_form function_form named_form layer.Bottom

pub ty_void : ty Void ≡ void
unfolding ty
ty_void = ap ty (sym rolls-Void) ∙ fold-roll-TypeRef Ty Ty (ℕ × Ty) type_form function_form named_form layer.Void

pub ty_class : (c : ClassId) (v : Vec TypeRef) → ty (Class c v) ≡ class c.0 (tys v.items)
unfolding ty
ty_class c v =
    ap ty (sym (rolls-Class c v)) ∙ fold-roll-TypeRef Ty Ty (ℕ × Ty) type_form function_form named_form (layer.Class c v)

pub ty_param : (i : ℕ) → ty (Param i) ≡ parameter i
unfolding ty
ty_param i = ap ty (sym (rolls-Param i)) ∙ fold-roll-TypeRef Ty Ty (ℕ × Ty) type_form function_form named_form (layer.Param i)

pub ty_function : (b : Box FunctionType) → ty (Function b) ≡ function_ty b.value
unfolding ty function_ty
ty_function b =
    ap ty (sym (rolls-Function b)) ∙ fold-roll-TypeRef Ty Ty (ℕ × Ty) type_form function_form named_form (layer.Function b)

pub function_out : (f : FunctionType) → function_ty f ≡ function (ty (out-FunctionType f).result) (tys (out-FunctionType f).required.items) (tys (out-FunctionType f).optional.items) (named_tys (out-FunctionType f).named.items)
unfolding ty function_ty named_ty
function_out f = fold_out-FunctionType Ty Ty (ℕ × Ty) type_form function_form named_form f

pub function_roll : (f : layer.FunctionType-F TypeRef FunctionType NamedType) → function_ty (roll-FunctionType f) ≡ function (ty f.result) (tys f.required.items) (tys f.optional.items) (named_tys f.named.items)
unfolding ty function_ty named_ty
function_roll f = fold-roll-FunctionType Ty Ty (ℕ × Ty) type_form function_form named_form f

pub named_out : (n : NamedType) → named_ty n ≡ ((out-NamedType n).name.0, ty (out-NamedType n).of)
unfolding ty named_ty
named_out n = fold_out-NamedType Ty Ty (ℕ × Ty) type_form function_form named_form n

pub named_roll : (n : layer.NamedType-F TypeRef FunctionType NamedType) → named_ty (roll-NamedType n) ≡ (n.name.0, ty n.of)
unfolding ty named_ty
named_roll n = fold-roll-NamedType Ty Ty (ℕ × Ty) type_form function_form named_form n

-- how each form is seen
pub ruleset views = (ty_dynamic, ty_bottom, ty_void, ty_param, ty_class, ty_function, function_out, function_roll, named_out, named_roll)
