-- The libraries of a loaded program (ECMA-408, 18 Libraries and Scripts).
use Rattle.std.specs.Prelude.{ℕ, ◌+◌, ◌-◌, nat_eq, List, [], ◌∷◌, ◌++◌, fold, filter_map, Bool, true, false, ◌&&◌, ◌||◌, Option, None, Some, if◌then◌else◌}
use Rattle.std.specs.Option.{option_map}
use Rattle.std.specs.List.{list_any}
use Rattle.dart_tree.specs.Unit.{UnitTree}
use Rattle.scope_mention.specs.declared.mention.MentionKind.{MentionKind}
use Rattle.scope_mention.specs.declared.mention.MentionKind.TheVariants.{Import, Export, Part}
use Rattle.scope_mention.specs.Head.{is_part}
use Rattle.scope_load.specs.declared.loaded.Link.{Link}
use Rattle.scope_load.specs.Judge.{owner_of}
use Rattle.scope_load.specs.State.{State}
use Rattle.scope_library.specs.declared.library.Edge.{Edge}
use Rattle.scope_library.specs.declared.library.Library.{Library}
use Rattle.scope_library.specs.declared.library.TheConstants.{CORE_UNIT}

-- a library without where its lists lie in memory: the number of its own unit, those of its parts, its imports and its exports
pub record LibraryIs : Type 0 where
  pub unit : ℕ
  pub parts : List ℕ
  pub imports : List Edge
  pub exports : List Edge

abbrev pub library_is : Library → LibraryIs
library_is l = record { unit = l.unit; parts = l.parts.items; imports = l.imports.items; exports = l.exports.items }

-- how many libraries have their own unit before this one: the number of the library whose own unit this is
abbrev pub number_of : List UnitTree → ℕ → ℕ
number_of [] at = 0
number_of (unit ∷ units) at = if nat_eq at 0 then 0
    else if is_part unit then number_of units (at - 1) else number_of units (at - 1) + 1

abbrev pub same_kind : MentionKind → MentionKind → Bool
same_kind Import Import = true
same_kind Import Export = false
same_kind Import Part = false
same_kind Export Import = false
same_kind Export Export = true
same_kind Export Part = false
same_kind Part Import = false
same_kind Part Export = false
same_kind Part Part = true

-- The mention is of this kind and by this unit.
abbrev pub is_from : MentionKind → ℕ → Link → Bool
is_from kind by link = nat_eq link.by by && same_kind kind link.kind

abbrev pub edge_to : List UnitTree → ℕ → ℕ → Edge
edge_to units directive target = record { library = number_of units target; directive = Some directive }

abbrev pub link_edge : List UnitTree → MentionKind → ℕ → Link → Option Edge
link_edge units kind by link = if is_from kind by link then option_map (edge_to units link.directive) link.target else None

-- the imports or exports that a unit writes
abbrev pub edges : List UnitTree → MentionKind → ℕ → List Link → List Edge
edges units kind by links = filter_map (link_edge units kind by) links

abbrev pub has_part : List ℕ → ℕ → Bool
has_part parts unit = list_any (λ part. nat_eq part unit) parts

abbrev pub with_target : List ℕ → Option ℕ → List ℕ
with_target parts None = parts
with_target parts (Some target) = if has_part parts target then parts else parts ++ target ∷ []

abbrev pub with_part : ℕ → List ℕ → Link → List ℕ
with_part by parts link = if is_from Part by link then with_target parts link.target else parts

-- the parts that a unit mentions, each once
abbrev pub parts : ℕ → List Link → List ℕ
parts by links = fold (with_part by) [] links

abbrev pub has_edge_to : List Edge → ℕ → Bool
has_edge_to edges library = list_any (λ edge. nat_eq edge.library library) edges

abbrev pub core_import : List UnitTree → Edge
core_import units = record { library = number_of units CORE_UNIT; directive = None }

-- the imports of a library: each but `dart:core` itself that doesn't import `dart:core` imports it whole
abbrev pub imports : List UnitTree → List Link → ℕ → List Edge
imports units links by = let written = edges units Import by links in
    if nat_eq by CORE_UNIT || has_edge_to written (number_of units CORE_UNIT) then written else written ++ core_import units ∷ []

-- the library whose own unit has this number
abbrev pub library_at : State → ℕ → LibraryIs
library_at state at = record {
  unit = at;
  parts = parts at state.links;
  imports = imports state.units state.links at;
  exports = edges state.units Export at state.links;
}

-- the libraries whose own units are among these, numbered from here
abbrev pub libraries_from : State → ℕ → List UnitTree → List LibraryIs
libraries_from state at [] = []
libraries_from state at (unit ∷ units) =
    if is_part unit then libraries_from state (at + 1) units else library_at state at ∷ libraries_from state (at + 1) units

-- the libraries of a program, in the order of their own units
abbrev pub libraries_of : State → List LibraryIs
libraries_of state = libraries_from state 0 state.units

abbrev pub owner_or : Option ℕ → ℕ → ℕ
owner_or None at = at
owner_or (Some owner) at = owner

-- the number of the library to which a unit belongs: a part belongs to the library that mentions it
abbrev pub home : State → ℕ → UnitTree → ℕ
home state at unit = if is_part unit then number_of state.units (owner_or (owner_of state.links at) at) else number_of state.units at

abbrev pub homes_from : State → ℕ → List UnitTree → List ℕ
homes_from state at [] = []
homes_from state at (unit ∷ units) = home state at unit ∷ homes_from state (at + 1) units

abbrev pub homes_of : State → List ℕ
homes_of state = homes_from state 0 state.units
