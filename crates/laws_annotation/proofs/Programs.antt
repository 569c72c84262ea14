-- The program of erased units has the same declarations, and its names mean the same.
use Rattle.std.proofs.Common.{◌≡◌, refl, sym, ap, ◌∙◌, subst, ℕ, List, [], ◌∷◌, ◌++◌, map}
use Rattle.std.specs.Prelude.{flat_map, IsPermutation}
use Rattle.dart_tree.specs.Unit.{UnitTree}
use Rattle.dart_erase.specs.UnitErased as of_unit
use Rattle.scope_declared.specs.Number.{number_of, library_place}
use Rattle.scope_declared.specs.declared.declaration.Declared.{Declared}
use Rattle.scope_load.specs.State.{State}
use Rattle.scope_entry.specs.Kinds.{unit_kinds}
use Rattle.scope_entry.specs.Entries.{numbered, entries}
use Rattle.scope_entry.specs.Libraries.{AreLibraries}
use Rattle.scope_space.specs.declared.declaration.Kind.{Kind}
use Rattle.dart_scope.specs.declared.program.Program.{Program}
use Rattle.dart_scope.specs.declared.program.SourceUnit.{SourceUnit}
use Rattle.dart_scope.specs.Program.{declared_in, all_declared, IsUnit, AreUnits}
use Rattle.dart_scope.specs.Making.{IsProgram}
use Rattle.laws_annotation.specs.Erased.{erased_state}
use Rattle.laws_annotation.proofs.Mapped.{flat_same}
use Rattle.laws_annotation.proofs.UnitDeclares.{unit_same}
use Rattle.laws_annotation.proofs.Stretches.{stretches_same}
use Rattle.laws_annotation.proofs.Entries.{unit_kinds_same, libraries_go}

module _ (names : List (List ℕ)) where
  pub declared_same : (library : ℕ) (x : UnitTree) → declared_in names library (of_unit.unit x) ≡ declared_in names library x
  declared_same library x = unit_same (number_of names library) (library_place library) x

  pub all_declared_same : (homes : List ℕ) (units : List UnitTree) → all_declared names homes (map of_unit.unit units) ≡ all_declared names homes units
  all_declared_same [] units = refl
  all_declared_same (home ∷ homes) [] = refl
  all_declared_same (home ∷ homes) (x ∷ units) = λ i. declared_same home x i ++ all_declared_same homes units i

  unit_goes : (home : ℕ) (x : UnitTree) (unit : SourceUnit) → IsUnit names home x unit → IsUnit names home (of_unit.unit x) unit
  unit_goes home x unit h = record {
    library = h.library;
    declared = subst (λ (all : List Declared). IsPermutation all unit.scopes.entries.items) (sym (declared_same home x)) h.declared;
    stretches = h.stretches ∙ sym (stretches_same x);
  }

  units_go : (homes : List ℕ) (trees : List UnitTree) (units : List SourceUnit) → AreUnits names homes trees units → AreUnits names homes (map of_unit.unit trees) units
  units_go [] trees units h = h
  units_go (home ∷ homes) [] units h = h
  units_go (home ∷ homes) (x ∷ trees) [] h = absurd h
  units_go (home ∷ homes) (x ∷ trees) (unit ∷ units) h = (unit_goes home x unit h.0, units_go homes trees units h.1)

  pub kinds_same : (units : List UnitTree) → flat_map unit_kinds (map of_unit.unit units) ≡ flat_map unit_kinds units
  kinds_same units = flat_same of_unit.unit unit_kinds unit_kinds_same units

  pub program_goes : (homes : List ℕ) (state : State) (program : Program) → IsProgram names homes state program → IsProgram names homes (erased_state state) program
  program_goes homes state program h = record {
    units = units_go homes state.units program.units.items h.units;
    numbered = h.numbered ∙ ap numbered (sym (all_declared_same homes state.units));
    libraries = subst (λ (kinds : List Kind). AreLibraries names (entries names program.numbered.items kinds) (erased_state state) program.spaces)
        (sym (kinds_same state.units))
        (libraries_go names (entries names program.numbered.items (flat_map unit_kinds state.units)) state program.spaces h.libraries);
  }
