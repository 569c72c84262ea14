-- Loading comes to the erased program where it comes to the program.
use Rattle.std.proofs.Common.{◌≡◌, refl, sym, ap, ◌∙◌, subst, ℕ, Bool, not, ◌&&◌, ◌||◌, if◌then◌else◌, List, length, map, slice_get, Option, None, Some}
use Rattle.std.specs.Prelude.{nat_eq, find, unwrap_or}
use Rattle.std.specs.Option.{option_map, option_and_then, option_or}
use Rattle.dart_base.specs.declared.feature.Feature.{Feature}
use Rattle.dart_base.specs.declared.place.Place.{Place}
use Rattle.dart_tree.specs.UnitView.{maybe}
use Rattle.dart_tree.specs.Unit.{UnitTree}
use Rattle.dart_erase.specs.UnitErased as of_unit
use Rattle.scope_mention.specs.Head.{part_place}
use Rattle.scope_mention.specs.declared.mention.MentionKind.{MentionKind}
use Rattle.scope_mention.specs.declared.mention.MentionKind.TheVariants.{Import, Export, Part}
use Rattle.scope_load.specs.declared.loaded.Link.{Link}
use Rattle.scope_load.specs.declared.reason.Reason.TheVariants.{LeftOut, BadDirective}
use Rattle.scope_load.specs.declared.units.UnitName.{UnitName}
use Rattle.scope_load.specs.Found.{FoundIs, read, Giving}
use Rattle.scope_load.specs.Judge.{same_number, owner_of, is_no_part, leads_wrong, is_mismatch, is_wrong_to, wrong_link, root_part, left_out}
use Rattle.scope_load.specs.Load.{uri_reason, directive_reason, reason_against, Reaches, begins, turns, Loads}
use Rattle.scope_load.specs.State.{State, after}
use Rattle.laws_annotation.specs.Erased.{erased_state}
use Rattle.laws_annotation.specs.Loading.{erased_found, GivenBy, GivenErasedBy}
use Rattle.laws_annotation.proofs.Mapped.{length_same, get_mapped}
use Rattle.laws_annotation.proofs.Heads.{part_place_same, part_same, part_of_same, mentions_same}
use Rattle.laws_annotation.proofs.Loads.{after_goes}

-- ---- reasons against units

module _ (units : List UnitTree) (links : List Link) where
  no_part_same : (by target : ℕ) (x : UnitTree) (o : Option UnitTree)
      → is_no_part (map of_unit.unit units) links by target (of_unit.unit x) (maybe of_unit.unit o) ≡ is_no_part units links by target x o
  no_part_same by target x None = refl
  no_part_same by target x (Some library) = λ i. not (part_of_same x library i) || not (same_number (owner_of links target) by)

  leads_same : (kind : MentionKind) (by target : ℕ) (x : UnitTree)
      → leads_wrong kind (map of_unit.unit units) links by target (of_unit.unit x) ≡ leads_wrong kind units links by target x
  leads_same Import by target x = part_same x
  leads_same Export by target x = part_same x
  leads_same Part by target x =
      ap (λ (o : Option UnitTree). is_no_part (map of_unit.unit units) links by target (of_unit.unit x) o) (get_mapped of_unit.unit units by)
      ∙ no_part_same by target x (slice_get units by)

  mismatch_same : (link : Link) (target : ℕ) (o : Option UnitTree)
      → is_mismatch (map of_unit.unit units) links link target (maybe of_unit.unit o) ≡ is_mismatch units links link target o
  mismatch_same link target None = refl
  mismatch_same link target (Some x) = leads_same link.kind link.by target x

  wrong_to_same : (at : ℕ) (link : Link) (target : Option ℕ) → is_wrong_to (map of_unit.unit units) links at link target ≡ is_wrong_to units links at link target
  wrong_to_same at link None = refl
  wrong_to_same at link (Some target) = ap (λ (b : Bool). (nat_eq link.by at || nat_eq target at) && b)
      (ap (is_mismatch (map of_unit.unit units) links link target) (get_mapped of_unit.unit units target) ∙ mismatch_same link target (slice_get units target))

  wrong_link_same : (at : ℕ) → wrong_link (map of_unit.unit units) links at ≡ wrong_link units links at
  wrong_link_same at = λ i. find (λ (link : Link). wrong_to_same at link link.target i) links

part_place_of : (o : Option UnitTree) → option_and_then part_place (maybe of_unit.unit o) ≡ option_and_then part_place o
part_place_of None = refl
part_place_of (Some x) = part_place_same x

root_part_same : (units : List UnitTree) (at : ℕ) → root_part (map of_unit.unit units) at ≡ root_part units at
root_part_same units at = λ i. if nat_eq at 0
    then (ap (option_and_then part_place) (get_mapped of_unit.unit units 0) ∙ part_place_of (slice_get units 0)) i else None

directive_same : (state : State) (at : ℕ) (name : UnitName) → directive_reason (erased_state state) at name ≡ directive_reason state at name
directive_same state at name = λ i. option_or
    (option_map (λ (place : Place). (name, BadDirective place)) (root_part_same state.units at i))
    (option_map (λ (link : Link). (unwrap_or (slice_get state.names link.by) name, BadDirective link.place)) (wrong_link_same state.units state.links at i))

uri_same : (name : UnitName) (x : UnitTree) → uri_reason name (of_unit.unit x) ≡ uri_reason name x
uri_same name x = λ i. option_map (λ (found : Place × Feature). (name, LeftOut found.0 found.1)) (left_out (mentions_same x i))

reason_same : (root : List ℕ) (state : State) (name : UnitName) (x : UnitTree) (weight : ℕ)
    → reason_against root (erased_state state) name (read (of_unit.unit x) weight) ≡ reason_against root state name (read x weight)
reason_same root state name x weight =
    (λ i. option_or (uri_same name x i) (directive_reason (after_goes root state name x weight i) (length_same of_unit.unit state.units i) name))
    ∙ ap (option_or (uri_reason name x)) (directive_same (after root state name x weight) (length state.units) name)

-- ---- what is reached

module _ (Gives Others : Giving) (erases : (n : ℕ) (name : UnitName) (x : UnitTree) (weight : ℕ) → Gives n name (read x weight) → Others n name (read (of_unit.unit x) weight)) (root : List ℕ) where
  reached : (state : State) → Reaches Gives root state → Reaches Others root (erased_state state)
  reached _ begins = begins
  reached _ (turns state name x weight before next given none) =
      let count : length state.units ≡ length (erased_state state).units = sym (length_same of_unit.unit state.units) in
      subst (Reaches Others root) (after_goes root state name x weight)
      (turns (erased_state state) name (of_unit.unit x) weight (reached state before)
      (subst (λ (n : ℕ). slice_get state.names n ≡ Some name) count next)
      (subst (λ (n : ℕ). Others n name (read (of_unit.unit x) weight)) count (erases (length state.units) name x weight given))
      (reason_same root state name x weight ∙ none))

  all_loaded : (state : State) → Loads Gives root state → Loads Others root (erased_state state)
  all_loaded state (ends, small) = (
    record {
      reached = reached state ends.reached;
      all = subst (λ (n : ℕ). slice_get state.names n ≡ None) (sym (length_same of_unit.unit state.units)) ends.all;
    },
    small,
  )

pub loaded : (give : ℕ → UnitName → FoundIs) (root : List ℕ) (state : State) → Loads (GivenBy give) root state → Loads (GivenErasedBy give) root (erased_state state)
loaded give root state h = all_loaded (GivenBy give) (GivenErasedBy give) (λ n name x weight e. ap erased_found e) root state h
