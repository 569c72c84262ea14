-- An erased program has the same libraries.
use Rattle.std.proofs.Common.{◌≡◌, refl, ℕ, ◌+◌, ◌-◌, ◌||◌, if◌then◌else◌, List, [], ◌∷◌, ◌++◌, map, None, Some}
use Rattle.std.specs.Prelude.{nat_eq, filter_map}
use Rattle.std.specs.Option.{option_map}
use Rattle.dart_tree.specs.Unit.{UnitTree}
use Rattle.dart_erase.specs.UnitErased as of_unit
use Rattle.scope_mention.specs.declared.mention.MentionKind.{MentionKind}
use Rattle.scope_mention.specs.declared.mention.MentionKind.TheVariants.{Import, Export}
use Rattle.scope_load.specs.declared.loaded.Link.{Link}
use Rattle.scope_load.specs.Judge.{owner_of}
use Rattle.scope_load.specs.State.{State}
use Rattle.scope_library.specs.declared.library.TheConstants.{CORE_UNIT}
use Rattle.scope_library.specs.Library.{number_of, is_from, edges, parts, has_edge_to, imports, library_at, libraries_from, libraries_of, owner_or, home, homes_from, homes_of}
use Rattle.laws_annotation.specs.Erased.{erased_state}
use Rattle.laws_annotation.proofs.Heads.{part_same}

pub number_same : (units : List UnitTree) (at : ℕ) → number_of (map of_unit.unit units) at ≡ number_of units at
number_same [] at = refl
number_same (x ∷ xs) at = λ i. if nat_eq at 0 then 0 else if part_same x i then number_same xs (at - 1) i else number_same xs (at - 1) i + 1

edges_same : (units : List UnitTree) (kind : MentionKind) (by : ℕ) (links : List Link) → edges (map of_unit.unit units) kind by links ≡ edges units kind by links
edges_same units kind by links = λ i. filter_map (λ (link : Link). if is_from kind by link
    then option_map (λ (target : ℕ). record { library = number_same units target i; directive = Some link.directive }) link.target else None) links

imports_same : (units : List UnitTree) (links : List Link) (by : ℕ) → imports (map of_unit.unit units) links by ≡ imports units links by
imports_same units links by = λ i. if nat_eq by CORE_UNIT || has_edge_to (edges_same units Import by links i) (number_same units CORE_UNIT i)
    then edges_same units Import by links i
    else edges_same units Import by links i ++ record { library = number_same units CORE_UNIT i; directive = None } ∷ []

library_same : (state : State) (at : ℕ) → library_at (erased_state state) at ≡ library_at state at
library_same state at = λ i. record {
  unit = at;
  parts = parts at state.links;
  imports = imports_same state.units state.links at i;
  exports = edges_same state.units Export at state.links i;
}

libraries_from_same : (state : State) (at : ℕ) (units : List UnitTree) → libraries_from (erased_state state) at (map of_unit.unit units) ≡ libraries_from state at units
libraries_from_same state at [] = refl
libraries_from_same state at (x ∷ xs) = λ i. if part_same x i then libraries_from_same state (at + 1) xs i
    else library_same state at i ∷ libraries_from_same state (at + 1) xs i

pub libraries_same : (state : State) → libraries_of (erased_state state) ≡ libraries_of state
libraries_same state = libraries_from_same state 0 state.units

home_same : (state : State) (at : ℕ) (x : UnitTree) → home (erased_state state) at (of_unit.unit x) ≡ home state at x
home_same state at x = λ i. if part_same x i then number_same state.units (owner_or (owner_of state.links at) at) i else number_same state.units at i

homes_from_same : (state : State) (at : ℕ) (units : List UnitTree) → homes_from (erased_state state) at (map of_unit.unit units) ≡ homes_from state at units
homes_from_same state at [] = refl
homes_from_same state at (x ∷ xs) = λ i. home_same state at x i ∷ homes_from_same state (at + 1) xs i

pub homes_same : (state : State) → homes_of (erased_state state) ≡ homes_of state
homes_same state = homes_from_same state 0 state.units
