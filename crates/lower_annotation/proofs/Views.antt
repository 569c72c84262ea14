-- Types are seen alike where the texts of names are the same.
use Rattle.std.proofs.Common.{◌≡◌, ℕ, List, map, slice_get, Option, Some, None, refl, ap}
use Rattle.std.specs.Prelude.{option_and_then}
use Rattle.core_program.specs.Named as with_names
use Rattle.core_program.specs.ProgramView.{text_at}
use Rattle.dart_ir.specs.Ty as dart
use Rattle.dart_ir.specs.declared.types.TypeRef.{TypeRef}
use Rattle.lower_leaf.specs.declared.meaning.Mixin.{Mixin}
use Rattle.lower_leaf.specs.Around.{Around, ty, types, option_type, mixin}
use Rattle.translation.specs.Surroundings as m
use Rattle.lower_annotation.specs.Seen.{types_in, place_at}
use Rattle.lower_annotation.specs.declared.variable.Variables.{Variables}

module _ (b a : Around) (same : b.texts ≡ a.texts) where
  pub ty-same : (x : TypeRef) → ty b x ≡ ty a x
  unfolding ty
  ty-same x = ap (λ (l : List (List ℕ)). with_names.ty (text_at l) (dart.ty x)) same

  pub types-same : (xs : List TypeRef) → types b xs ≡ types a xs
  types-same xs = ap (λ (f : TypeRef → m.Ty). map f xs) (λ j x. ty-same x j)

  pub option-same : (o : Option TypeRef) → option_type b o ≡ option_type a o
  option-same None = refl
  option-same (Some x) = ap Some (ty-same x)

  pub mixin-same : (o : Option Mixin) → mixin b o ≡ mixin a o
  mixin-same None = refl
  mixin-same (Some x) = λ j. Some (record { class = x.class.0; arguments = types-same x.arguments.items j })

  pub variables-same : (x : Variables) (n : ℕ) → types_in b x n ≡ types_in a x n
  variables-same x n = ap (λ (f : Option TypeRef → Option m.Ty). option_and_then f (option_and_then (slice_get x.types.items) (place_at x.places n))) (λ j o. option-same o j)
