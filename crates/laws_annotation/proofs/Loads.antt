-- To load an erased unit is to load the unit: its mentions lead to the same units.
use Rattle.std.proofs.Common.{◌≡◌, refl, sym, ap, ◌∙◌, ℕ, ◌+◌, Bool, true, false, if◌then◌else◌, List, [], ◌∷◌, ◌++◌, length, Option, None, Some}
use Rattle.std.specs.Prelude.{nat_lt, fold, position}
use Rattle.std.proofs.lemmas.List.{map-append}
use Rattle.dart_tree.specs.Unit.{UnitTree}
use Rattle.dart_erase.specs.UnitErased as of_unit
use Rattle.scope_mention.specs.declared.mention.Mention.{Mention}
use Rattle.scope_mention.specs.Mention.{mentions_of}
use Rattle.scope_load.specs.declared.units.UnitName.{UnitName}
use Rattle.scope_load.specs.Names.{same_name, folder_of, name_of}
use Rattle.scope_load.specs.State.{State, most_units, link_to, with_link, with_name, numbered, named, mentioned, weight_of, after}
use Rattle.laws_annotation.specs.Erased.{erased_state}
use Rattle.laws_annotation.proofs.Mapped.{length_same}
use Rattle.laws_annotation.proofs.Heads.{mentions_same}

either_goes : (b : Bool) (x y : State) → (if b then erased_state x else erased_state y) ≡ erased_state (if b then x else y)
either_goes true x y = refl
either_goes false x y = refl

numbered_goes : (by : ℕ) (s : State) (mention : Mention) (name : UnitName) (at : Option ℕ) → numbered by (erased_state s) mention name at ≡ erased_state (numbered by s mention name at)
numbered_goes by s mention name (Some at) = refl
numbered_goes by s mention name None = either_goes (nat_lt (length s.names) most_units)
    (with_link (with_name s name) (link_to by mention (Some (length s.names)))) (record s { over = true })

named_goes : (by : ℕ) (s : State) (mention : Mention) (name : Option UnitName) → named by (erased_state s) mention name ≡ erased_state (named by s mention name)
named_goes by s mention None = refl
named_goes by s mention (Some name) = numbered_goes by s mention name (position (λ other. same_name other name) s.names)

all_goes : (folder : List ℕ) (by : ℕ) (s : State) (mentions : List Mention) → fold (mentioned folder by) (erased_state s) mentions ≡ erased_state (fold (mentioned folder by) s mentions)
all_goes folder by s [] = refl
all_goes folder by s (mention ∷ mentions) = ap (λ (z : State). fold (mentioned folder by) z mentions) (named_goes by s mention (name_of folder mention.uri))
    ∙ all_goes folder by (mentioned folder by s mention) mentions

pub after_goes : (root : List ℕ) (s : State) (name : UnitName) (x : UnitTree) (weight : ℕ) →
    after root (erased_state s) name (of_unit.unit x) weight ≡ erased_state (after root s name x weight)
after_goes root s name x weight =
    let followed : State = fold (mentioned (folder_of root) (length s.units)) s (mentions_of x) in
    let next : State → State = λ z. record z { units = z.units ++ of_unit.unit x ∷ []; weight = z.weight + weight_of name weight } in
    (λ i. next (fold (mentioned (folder_of root) (length_same of_unit.unit s.units i)) (erased_state s) (mentions_same x i)))
    ∙ ap next (all_goes (folder_of root) (length s.units) s (mentions_of x))
    ∙ (λ i. record followed { units = sym (map-append of_unit.unit followed.units (x ∷ [])) i; weight = followed.weight + weight_of name weight })
