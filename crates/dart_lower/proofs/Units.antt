-- Units beside their libraries, with one unit more.
use Rattle.std.proofs.Common.{◌≡◌, ◌∙◌, ℕ, ◌+◌, ◌<◌, arith, inl, inr, List, [], ◌∷◌, length, drop, get_or, map, min, refl, sym, ap}
use Rattle.std.specs.List.{zip}
use Rattle.std.proofs.lemmas.Bool.{cases_lt}
use Rattle.std.proofs.lemmas.List.{drop_all, drop_more}
use Rattle.dart_tree.specs.Unit.{UnitTree}
use Rattle.dart_tree.specs.UnitView as view
use Rattle.dart_tree.specs.declared.unit.Unit as code

abbrev pub paired : List ℕ → List code.Unit → ℕ → List (ℕ × UnitTree)
paired homes units i = zip (drop i homes) (map view.unit (drop i units))

without-units : (xs : List ℕ) → zip xs (let none : List UnitTree = [] in none) ≡ []
without-units [] = refl
without-units (x ∷ xs) = refl

-- a unit more
pub paired-more : (homes : List ℕ) (units : List code.Unit) (i : ℕ) (library : ℕ) (unit : code.Unit) → i < length homes → i < length units
    → library ≡ get_or homes i library → unit ≡ get_or units i unit → paired homes units i ≡ (library, view.unit unit) ∷ paired homes units (i + 1)
paired-more homes units i library unit within beside home tree =
    (λ j. zip (drop_more homes i library within j) (map view.unit (drop_more units i unit beside j)))
    ∙ (λ j. (sym home j, view.unit (sym tree j)) ∷ paired homes units (i + 1))

-- and none
pub paired-end : (homes : List ℕ) (units : List code.Unit) (i : ℕ) → i ≡ min (length homes) (length units) → paired homes units i ≡ []
paired-end homes units i at = elim (cases_lt i (length homes)) [
  | inl less ↦ ap (λ (l : List code.Unit). zip (drop i homes) (map view.unit l)) (drop_all i units (omega arith)) ∙ without-units (drop i homes)
  | inr past ↦ ap (λ (l : List ℕ). zip l (map view.unit (drop i units))) (drop_all i homes past)
]
