-- The reasons against the units that are taken.
use Rattle.std.specs.Prelude.{ℕ, List, [], ◌∷◌, Bool, true, false, not, ◌&&◌, ◌||◌, find, nat_eq, slice_get, if◌then◌else◌, Option, None, Some}
use Rattle.std.specs.Option.{option_map, option_and_then, option_or}
use Rattle.dart_base.specs.declared.place.Place.{Place}
use Rattle.dart_base.specs.declared.feature.Feature.{Feature}
use Rattle.dart_tree.specs.Unit.{UnitTree}
use Rattle.scope_mention.specs.declared.mention.Mention.{Mention}
use Rattle.scope_mention.specs.declared.mention.MentionKind.{MentionKind}
use Rattle.scope_mention.specs.declared.mention.MentionKind.TheVariants.{Import, Export, Part}
use Rattle.scope_mention.specs.declared.mention.Uri.{Uri}
use Rattle.scope_mention.specs.declared.mention.Uri.TheVariants as uri
use Rattle.scope_mention.specs.Head.{part_place, is_part, is_part_of}
use Rattle.scope_load.specs.declared.loaded.Link.{Link}

abbrev pub same_number : Option ℕ → ℕ → Bool
same_number None at = false
same_number (Some number) at = nat_eq number at

-- The link is a mention as a part.
abbrev pub by_part : MentionKind → Bool
by_part Import = false
by_part Export = false
by_part Part = true

-- The link mentions this unit as a part.
abbrev pub owns : ℕ → Link → Bool
owns at link = by_part link.kind && same_number link.target at

-- the first unit that mentions this one as a part
abbrev pub owner_of : List Link → ℕ → Option ℕ
owner_of links at = option_map (λ link. link.by) (find (owns at) links)

-- the part that a library mentions is none of it: it doesn't name this library, or belongs to another one
abbrev pub is_no_part : List UnitTree → List Link → ℕ → ℕ → UnitTree → Option UnitTree → Bool
is_no_part units links by target unit None = true
is_no_part units links by target unit (Some library) = not (is_part_of unit library) || not (same_number (owner_of links target) by)

-- a mention of this kind, by this unit, leads to the unit of a number, with this tree, and may not
abbrev pub leads_wrong : MentionKind → List UnitTree → List Link → ℕ → ℕ → UnitTree → Bool
leads_wrong Import units links by target unit = is_part unit
leads_wrong Export units links by target unit = is_part unit
leads_wrong Part units links by target unit = is_no_part units links by target unit (slice_get units by)

-- what is wrong with a mention of a unit that may not be taken yet
abbrev pub is_mismatch : List UnitTree → List Link → Link → ℕ → Option UnitTree → Bool
is_mismatch units links link target None = false
is_mismatch units links link target (Some unit) = leads_wrong link.kind units links link.by target unit

-- The mention is wrong, and this is the later of its two units, or the one that mentions none.
abbrev pub is_wrong_to : List UnitTree → List Link → ℕ → Link → Option ℕ → Bool
is_wrong_to units links at link None = nat_eq link.by at
is_wrong_to units links at link (Some target) =
    (nat_eq link.by at || nat_eq target at) && is_mismatch units links link target (slice_get units target)

abbrev pub is_wrong : List UnitTree → List Link → ℕ → Link → Bool
is_wrong units links at link = is_wrong_to units links at link link.target

-- the first mention that is wrong once this unit is taken
abbrev pub wrong_link : List UnitTree → List Link → ℕ → Option Link
wrong_link units links at = find (is_wrong units links at) links

-- where the root is a part, once it is taken
abbrev pub root_part : List UnitTree → ℕ → Option Place
root_part units at = if nat_eq at 0 then option_and_then part_place (slice_get units 0) else None

abbrev pub uri_left_out : Uri → Option (Place × Feature)
uri_left_out uri.Unclear = None
uri_left_out (uri.LeftOut place feature) = Some (place, feature)
uri_left_out uri.Core = None
uri_left_out uri.Isolate = None
uri_left_out (uri.File text) = None

-- the first mention of what the profile leaves out
abbrev pub left_out : List Mention → Option (Place × Feature)
left_out [] = None
left_out (mention ∷ mentions) = option_or (uri_left_out mention.uri) (left_out mentions)
