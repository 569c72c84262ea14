-- Types in which names are texts.
use Rattle.std.proofs.Common.{◌≡◌, ◌∙◌, ℕ, List, [], ◌∷◌, map, refl, sym, ap}
use Rattle.core_program.specs.Named as with_names
use Rattle.core_program.specs.ProgramView.{text_at}
use Rattle.dart_ir.specs.Ty.{TyOf, TysOf, cons, of_list}
use Rattle.dart_ir.specs.Ty as dart
use Rattle.dart_ir.specs.declared.types.TypeRef.{TypeRef}
use Rattle.dart_ir.proofs.View.{views}
use Rattle.translation.specs.Types as y
use Rattle.lower_leaf.specs.Around.{Around, ty, types}

pub tys_named : (f : ℕ → List ℕ) (xs : List TypeRef) → with_names.tys f (of_list (map dart.ty xs)) ≡ y.tys (map (λ x. with_names.ty f (dart.ty x)) xs)
tys_named f [] = refl
tys_named f (x ∷ xs) = ap (λ (rest : TysOf (List ℕ)). cons (with_names.ty f (dart.ty x)) rest) (tys_named f xs)

pub ruleset type_views = (views, tys_named)

each_named : (f : ℕ → List ℕ) (xs : List TypeRef) → map (with_names.ty f) (map dart.ty xs) ≡ map (λ x. with_names.ty f (dart.ty x)) xs
each_named f [] = refl
each_named f (x ∷ xs) = ap (λ (rest : List (TyOf (List ℕ))). with_names.ty f (dart.ty x) ∷ rest) (each_named f xs)

-- Equal types have equal names.
pub copied : (a : Around) (xs ys : List TypeRef) → map dart.ty xs ≡ map dart.ty ys → types a xs ≡ types a ys
unfolding ty
copied a xs ys e = sym (each_named (text_at a.texts) xs) ∙ ap (map (with_names.ty (text_at a.texts))) e ∙ each_named (text_at a.texts) ys
