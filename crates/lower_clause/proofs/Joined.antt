-- Several forms as one.
use Rattle.std.proofs.Common.{◌≡◌, ℕ, List, [], ◌∷◌, ◌++◌, Option, Some, None, refl, sym, ap, ◌∙◌, length, arith}
use Rattle.dart_base.specs.declared.place.Place.{Place}
use Rattle.core_program.specs.Core as c
use Rattle.translation.specs.References.{block}
use Rattle.translation.specs.Statements as s
use Rattle.translation.specs.Surroundings.{Text, Core}
use Rattle.translation.specs.Walk as w
use Rattle.lower_clause.specs.Jumps.{joined, first_place}
use Rattle.lower_clause.specs.Parts.{option_part, part_or}

-- what labels stand before
abbrev pub labelled_option : ℕ → Option Core → List Core
labelled_option target None = []
labelled_option target (Some form) = c.at (w.place_of_core form) (c.labelled target form) ∷ []

pub labelled_joined : (target : ℕ) (forms : List Core) → s.labelled_forms target forms ≡ labelled_option target (joined forms)
labelled_joined target [] = refl
labelled_joined target (form ∷ []) = refl
labelled_joined target (form ∷ more ∷ rest) = refl

pub part_joined : (forms : List Core) → s.one_part forms ≡ option_part (joined forms)
part_joined [] = refl
part_joined (form ∷ []) = refl
part_joined (form ∷ more ∷ rest) = refl

-- a last form behind others
pub joined_last : (forms : List Core) (last : Core) → first_place forms ≡ None → joined (forms ++ last ∷ []) ≡ Some last
joined_last [] last none = refl
joined_last (form ∷ forms) last none = cc

pub joined_more : (forms : List Core) (last : Core) (place : Place) → first_place forms ≡ Some place →
    joined (forms ++ last ∷ []) ≡ Some (block place (forms ++ last ∷ []))
joined_more [] last place some = cc
joined_more (form ∷ []) last place some =
    let at : w.place_of_core form ≡ place = cc in ap (λ (p : Place). Some (block p (form ∷ last ∷ []))) at
joined_more (form ∷ more ∷ rest) last place some =
    let at : w.place_of_core form ≡ place = cc in ap (λ (p : Place). Some (block p (form ∷ more ∷ rest ++ last ∷ []))) at

pub joined_none : (forms : List Core) → length forms ≡ 0 → joined forms ≡ None
joined_none [] none = refl
joined_none (form ∷ forms) none = absurd (omega arith)

pub ruleset joining = (labelled_joined, joined_none, joined_last, joined_more)

pub part_or_missing : (x : c.Part Text) → part_or x c.missing ≡ x
part_or_missing c.missing = refl
part_or_missing (c.given form) = refl
