-- Forms in which names are texts.
use Rattle.std.proofs.Common.{◌≡◌, ℕ, List, [], ◌∷◌, map, refl, ap}
use Rattle.dart_base.specs.declared.name.Name.{Name}
use Rattle.core_program.specs.Core as c
use Rattle.core_program.specs.Named as with_names
use Rattle.core_program.specs.View as v
use Rattle.core_program.specs.declared.form.Core.{Core}
use Rattle.core_program.proofs.Views.{views}
use Rattle.dart_ir.specs.Ty.{TyOf, ty}
use Rattle.dart_ir.specs.declared.types.TypeRef.{TypeRef}

pub cores_named : (f : ℕ → List ℕ) (xs : List Core) → with_names.cores f (c.cores (map v.core xs)) ≡ c.cores (map (λ x. with_names.core f (v.core x)) xs)
cores_named f [] = refl
cores_named f (x ∷ xs) = ap (λ (rest : c.Cores (List ℕ)). c.core_more (with_names.core f (v.core x)) rest) (cores_named f xs)

pub names_named : (f : ℕ → List ℕ) (xs : List Name) → map f (v.names xs) ≡ map (λ (x : Name). f x.0) xs
names_named f [] = refl
names_named f (x ∷ xs) = ap (λ (rest : List (List ℕ)). f x.0 ∷ rest) (names_named f xs)

pub types_named : (f : ℕ → List ℕ) (xs : List TypeRef) → map (with_names.ty f) (map ty xs) ≡ map (λ x. with_names.ty f (ty x)) xs
types_named f [] = refl
types_named f (x ∷ xs) = ap (λ (rest : List (TyOf (List ℕ))). with_names.ty f (ty x) ∷ rest) (types_named f xs)

-- how each form is seen
pub ruleset forms = (views, cores_named, names_named, types_named)
