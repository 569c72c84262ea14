-- The types of functions, from their parts.
use Rattle.std.proofs.Common.{◌≡◌, ◌∙◌, ℕ, List, map, refl, sym, ap, Bool, true, false, cond, Option, None}
use Rattle.std.specs.Global.{Vec}
use Rattle.dart_ir.specs.Ty.{TysOf, NamedTysOf, dynamic, function}
use Rattle.dart_ir.specs.Ty as dart
use Rattle.dart_ir.specs.declared.types.FunctionType.{FunctionType, roll-FunctionType}
use Rattle.dart_ir.specs.declared.types.NamedType.{NamedType}
use Rattle.dart_ir.specs.declared.types.TypeRef.{TypeRef}
use Rattle.dart_ir.specs.declared.types.TypeRef as k
use Rattle.dart_ir.proofs.View.{ty_dynamic, function_roll}
use Rattle.core_program.specs.Named as with_names
use Rattle.core_program.specs.ProgramView.{text_at}
use Rattle.translation.specs.Surroundings.{Text, Ty}
use Rattle.translation.specs.ClassBodies as b
use Rattle.translation.specs.Types as y
use Rattle.translation.specs.Walk.{Asked}
use Rattle.lower_leaf.specs.Around.{Around, types}
use Rattle.lower_leaf.specs.Around as around
use Rattle.lower_leaf.specs.Kept.{named_type, named_types}
use Rattle.lower_leaf.specs.Seen.{asked}
use Rattle.lower_leaf.specs.declared.state.Asked as code
use Rattle.lower_leaf.proofs.TypeLaws.{tys_named, named_tys_named}
use Rattle.lower_function.specs.Made.{signature}

pub dynamic_seen : (a : Around) → around.ty a k.Dynamic ≡ dynamic
unfolding around.ty
dynamic_seen a = ap (with_names.ty (text_at a.texts)) ty_dynamic

pub signature_made : (a : Around) (answer : TypeRef) (required optional : Vec TypeRef) (names : Vec NamedType) →
    signature a (roll-FunctionType (record { result = answer; required = required; optional = optional; named = names }))
    ≡ function (around.ty a answer) (y.tys (types a required.items)) (y.tys (types a optional.items)) (named_types a names.items)
unfolding signature around.ty named_type
signature_made a answer required optional names =
    let f = text_at a.texts in
    ap (with_names.ty f) (function_roll (record { result = answer; required = required; optional = optional; named = names }))
    ∙ ap (λ (ts : TysOf Text). function (with_names.ty f (dart.ty answer)) ts (with_names.tys f (dart.tys optional.items))
    (with_names.named_tys f (dart.named_tys names.items))) (tys_named f required.items)
    ∙ ap (λ (ts : TysOf Text). function (with_names.ty f (dart.ty answer)) (y.tys (map (λ x. with_names.ty f (dart.ty x)) required.items)) ts
    (with_names.named_tys f (dart.named_tys names.items))) (tys_named f optional.items)
    ∙ ap (λ (ns : NamedTysOf Text). function (with_names.ty f (dart.ty answer)) (y.tys (map (λ x. with_names.ty f (dart.ty x)) required.items))
    (y.tys (map (λ x. with_names.ty f (dart.ty x)) optional.items)) ns) (named_tys_named f names.items)

-- with parts that are known
pub signature_of : (a : Around) (answer : TypeRef) (required optional : Vec TypeRef) (names : Vec NamedType) (result : Ty) (first rest : TysOf Text) (last : NamedTysOf Text) →
    around.ty a answer ≡ result → y.tys (types a required.items) ≡ first → y.tys (types a optional.items) ≡ rest → named_types a names.items ≡ last →
    signature a (roll-FunctionType (record { result = answer; required = required; optional = optional; named = names })) ≡ function result first rest last
signature_of a answer required optional names result first rest last er ef eo en =
    signature_made a answer required optional names
    ∙ ap (λ (z : Ty). function z (y.tys (types a required.items)) (y.tys (types a optional.items)) (named_types a names.items)) er
    ∙ ap (λ (z : TysOf Text). function result z (y.tys (types a optional.items)) (named_types a names.items)) ef
    ∙ ap (λ (z : TysOf Text). function result first z (named_types a names.items)) eo
    ∙ ap (λ (z : NamedTysOf Text). function result first rest z) en

-- ---- what annotations wrote

either : {A : Type 0} (there : Bool) (z : A) → z ≡ cond there z z
either true z = refl
either false z = refl

pub unannotated : (x : Asked) → x.annotated ≡ false → dynamic ≡ b.annotated_type x
unannotated x none = sym (ap (λ (there : Bool). cond there (y.type_asked x) dynamic) none)

pub nothing_asked : (a : Around) (x : code.Asked) → x.of ≡ None → dynamic ≡ b.annotated_type (asked a x)
nothing_asked a x none = either x.annotated dynamic
    ∙ ap (λ (of : Option TypeRef). cond x.annotated (y.type_asked (record { of = around.option_type a of; annotated = x.annotated })) dynamic) (sym none)
