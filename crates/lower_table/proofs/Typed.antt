-- Types of rows, in which names are texts.
use Rattle.std.proofs.Common.{◌≡◌, ℕ, List, [], ◌∷◌, map, Option, Some, None, refl, ap}
use Rattle.std.specs.List.{list_any}
use Rattle.std.specs.Option.{is_some}
use Rattle.core_program.specs.Named as with_names
use Rattle.core_program.specs.ProgramView as pv
use Rattle.dart_ir.specs.Ty.{TyOf, of_list, ty}
use Rattle.dart_ir.specs.declared.types.TypeRef.{TypeRef}
use Rattle.dart_ir.proofs.View.{views}
use Rattle.lower_table.specs.Rows.{listed}

pub listed_named : (f : ℕ → List ℕ) (xs : List TypeRef) → listed (with_names.tys f (of_list (map ty xs))) ≡ map (λ x. with_names.ty f (ty x)) xs
listed_named f [] = refl
listed_named f (x ∷ xs) = ap (λ (rest : List (TyOf (List ℕ))). with_names.ty f (ty x) ∷ rest) (listed_named f xs)

-- how the types of rows are seen
pub ruleset row_views = (views, listed_named)

-- as many bounds are there
pub bounds_named : (f : ℕ → List ℕ) (xs : List (Option TypeRef)) → list_any is_some (map (with_names.ty_option f) (map pv.ty_option xs)) ≡ list_any is_some xs
bounds_named f [] = refl
bounds_named f (None ∷ xs) = bounds_named f xs
bounds_named f (Some x ∷ xs) = refl
