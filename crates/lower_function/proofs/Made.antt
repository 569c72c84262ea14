-- How functions and their signatures are seen.
use Rattle.std.proofs.Common.{◌≡◌, ℕ, List, [], ◌∷◌, map, Option, Some, None, refl, sym, ap, ◌∙◌}
use Rattle.std.specs.Global.{Box}
use Rattle.dart_ir.specs.Ty.{function_ty}
use Rattle.dart_ir.specs.Ty as dart
use Rattle.dart_ir.specs.declared.number.ClassId.{ClassId}
use Rattle.dart_ir.specs.declared.types.FunctionType.{FunctionType}
use Rattle.dart_ir.specs.declared.types.TypeRef as k
use Rattle.dart_ir.proofs.View.{ty_function}
use Rattle.core_program.specs.Named as with_names
use Rattle.core_program.specs.Program as p
use Rattle.core_program.specs.ProgramView as pv
use Rattle.core_program.specs.declared.program.Function.{Function}
use Rattle.core_program.specs.declared.program.Parameter.{Parameter}
use Rattle.translation.specs.Surroundings.{Text}
use Rattle.lower_leaf.specs.Around.{Around, text, ty, class}
use Rattle.lower_leaf.specs.Forms.{part}
use Rattle.lower_leaf.specs.Seen.{function}
use Rattle.lower_function.specs.Made.{parameter, signature}

pub signature_copied : (a : Around) (copy : FunctionType) (of : Box FunctionType) → function_ty copy ≡ function_ty of.value → signature a copy ≡ ty a (k.Function of)
unfolding signature ty
signature_copied a copy of same = ap (with_names.ty (pv.text_at a.texts)) (same ∙ sym (ty_function of))

class_same : (of : Option ClassId) → pv.class_option of ≡ class of
class_same None = refl
class_same (Some n) = refl

parameters_same : (a : Around) (xs : List Parameter) → map (with_names.parameter (pv.text_at a.texts)) (map pv.parameter xs) ≡ map (parameter a) xs
parameters_same a [] = refl
parameters_same a (x ∷ xs) = ap (λ (rest : List (p.Parameter Text)). parameter a x ∷ rest) (parameters_same a xs)

-- a function with these parameters, in the context of this class
abbrev function_with : Around → Function → Option ℕ → List (p.Parameter Text) → p.Function Text
function_with a x of bound = record {
  name = text a x.name;
  kind = x.kind;
  class = of;
  parameters = bound;
  vars = x.vars;
  cells = x.cells.items;
  captures = x.captures.items;
  signature = signature a x.signature;
  body = part a x.body;
}

pub function_seen : (a : Around) (x : Function) → function a x ≡ record {
  name = text a x.name;
  kind = x.kind;
  class = class x.class;
  parameters = map (parameter a) x.parameters.items;
  vars = x.vars;
  cells = x.cells.items;
  captures = x.captures.items;
  signature = signature a x.signature;
  body = part a x.body;
}
unfolding function signature part
function_seen a x =
    ap (λ (of : Option ℕ). function_with a x of (map (with_names.parameter (pv.text_at a.texts)) (map pv.parameter x.parameters.items))) (class_same x.class)
    ∙ ap (λ (bound : List (p.Parameter Text)). function_with a x (class x.class) bound) (parameters_same a x.parameters.items)
