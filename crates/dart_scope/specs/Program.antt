-- The declarations of a program, and what its names mean (ECMA-408, 6.1 Scoping, 18 Libraries and Scripts).
use Rattle.std.specs.Prelude.{◌≡◌, ℕ, false, List, Option, None, Some, All, IsPermutation, flat_map, slice_get}
use Rattle.std.specs.List.{AllZip, zip}
use Rattle.dart_base.specs.declared.name.Name.{Name}
use Rattle.dart_base.specs.declared.place.Place.{Place}
use Rattle.dart_tree.specs.Unit.{UnitTree}
use Rattle.scope_declared.specs.Number.{number_of, library_place}
use Rattle.scope_declared.specs.UnitDeclared.{unit_declares}
use Rattle.scope_declared.specs.declared.declaration.Declared.{Declared}
use Rattle.scope_table.specs.Lookup.{means, IsInnermost}
use Rattle.scope_table.specs.Instance.{unit_stretches}
use Rattle.scope_space.specs.declared.library.Library.{Library}
use Rattle.scope_space.specs.declared.bound.Binding.{Binding}
use Rattle.scope_space.specs.declared.bound.Binding.TheVariants.{Imported}
use Rattle.scope_space.specs.declared.bound.Bound.TheVariants.{Unknown}
use Rattle.scope_space.specs.Namespace.{IsBinding}
use Rattle.dart_scope.specs.declared.meaning.Meaning.{Meaning}
use Rattle.dart_scope.specs.declared.meaning.Meaning.TheVariants.{Outer}
use Rattle.dart_scope.specs.declared.program.SourceUnit.{SourceUnit}
use Rattle.dart_scope.specs.Meaning.{has_instance, meaning_of}

-- what a unit of a library declares
abbrev pub declared_in : List (List ℕ) → ℕ → UnitTree → List Declared
declared_in names library unit = unit_declares (number_of names library) (library_place library) unit

-- what the units of a program declare, unit by unit, where each belongs to the library of the number beside it
abbrev pub all_declared : List (List ℕ) → List ℕ → List UnitTree → List Declared
all_declared names homes units = flat_map (λ p. declared_in names p.0 p.1) (zip homes units)

-- a unit's library, and its declarations in any order
pub record IsUnit (names : List (List ℕ)) (home : ℕ) (tree : UnitTree) (unit : SourceUnit) : Type 0 where
  pub library : unit.library ≡ home
  pub declared : IsPermutation (declared_in names home tree) unit.scopes.entries.items
  pub stretches : unit.without_instance.items ≡ unit_stretches tree

-- the units of a program, where each belongs to the library of the number beside it
abbrev pub AreUnits : List (List ℕ) → List ℕ → List UnitTree → List SourceUnit → Type 0
AreUnits names homes trees units = AllZip (λ p unit. IsUnit names p.0 p.1 unit) (zip homes trees) units

-- What a name means at a place of a unit: what the innermost declaration makes it mean that counts there, else what the
-- unit's library gives.
pub data MeansIn (unit : SourceUnit) (libraries : List Library) (at : Place) (name : Name) : Meaning → Type 0 where
  inside : (d : Declared) → IsInnermost at name unit.scopes.entries.items d
      → MeansIn unit libraries at name (meaning_of (has_instance unit.without_instance.items at) d)
  outside : (binding : Binding) → All (λ d. means at name d ≡ false) unit.scopes.entries.items
      → IsBinding libraries unit.library name.0 binding → MeansIn unit libraries at name (Outer binding)

-- What a name means at a place of a program; nothing at a place of no unit.
abbrev pub MeansOf : Option SourceUnit → List Library → Place → Name → Meaning → Type 0
MeansOf None libraries at name meaning = meaning ≡ Outer (Imported Unknown)
MeansOf (Some unit) libraries at name meaning = MeansIn unit libraries at name meaning

abbrev pub Means : List SourceUnit → List Library → Place → Name → Meaning → Type 0
Means units libraries at name meaning = MeansOf (slice_get units at.unit) libraries at name meaning
