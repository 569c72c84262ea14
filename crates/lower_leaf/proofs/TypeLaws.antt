-- Types in which names are texts.
use Rattle.std.proofs.Common.{◌≡◌, ℕ, List, [], ◌∷◌, map, refl, ap}
use Rattle.core_program.specs.Named as with_names
use Rattle.dart_ir.specs.Ty.{TysOf, NamedTysOf, cons, named, of_list, of_named, ty, named_ty}
use Rattle.dart_ir.specs.declared.types.TypeRef.{TypeRef}
use Rattle.dart_ir.specs.declared.types.NamedType.{NamedType}
use Rattle.dart_ir.proofs.View.{views}
use Rattle.std.proofs.lemmas.Option.{slice_get-map}
use Rattle.translation.specs.Types as y
use Rattle.lower_leaf.specs.Kept.{in_order}

pub tys_named : (f : ℕ → List ℕ) (xs : List TypeRef) → with_names.tys f (of_list (map ty xs)) ≡ y.tys (map (λ x. with_names.ty f (ty x)) xs)
tys_named f [] = refl
tys_named f (x ∷ xs) = ap (λ (rest : TysOf (List ℕ)). cons (with_names.ty f (ty x)) rest) (tys_named f xs)

pub named_tys_named : (f : ℕ → List ℕ) (xs : List NamedType) → with_names.named_tys f (of_named (map named_ty xs)) ≡ in_order (map (λ x. (f (named_ty x).0, with_names.ty f (named_ty x).1)) xs)
named_tys_named f [] = refl
named_tys_named f (x ∷ xs) = ap (λ (rest : NamedTysOf (List ℕ)). named (f (named_ty x).0) (with_names.ty f (named_ty x).1) rest) (named_tys_named f xs)

pub ruleset argument_laws = (slice_get-map)

-- how each type is seen
pub ruleset type_views = (views, tys_named, named_tys_named)
