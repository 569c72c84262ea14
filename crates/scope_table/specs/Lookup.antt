-- What a name means at a place of a unit (6.1 Scoping and 16.33 Identifier Reference).
use Rattle.std.specs.Prelude.{◌≡◌, ◌==◌, ◌&&◌, Bool, true, false, not, List, All, Contains, Option, MatchOption}
use Rattle.dart_base.specs.declared.name.Name.{Name}
use Rattle.dart_base.specs.declared.place.Place.{Place}
use Rattle.scope_declared.specs.declared.declaration.Declared.{Declared}
use Rattle.scope_table.specs.Order.{before_or, place_before, is_outside}

-- a declaration counts at the places behind one token, up to another
abbrev pub counts_at : Place → Declared → Bool
counts_at at d = place_before d.extent.after at && not (place_before d.extent.last at)

-- it is what the name may mean there
abbrev pub means : Place → Name → Declared → Bool
means at name d = d.name.0 == name.0 && counts_at at d

-- of the declarations that a name may mean at a place this is one to which none is further in
pub record IsInnermost (at : Place) (name : Name) (declared : List Declared) (d : Declared) : Type 0 where
  pub there : Contains declared d
  pub meant : means at name d ≡ true
  pub innermost : All (λ e. means at name e ≡ true → is_outside d e ≡ false) declared

-- the innermost declaration, or none where the name means nothing of the unit there
abbrev pub Finds : Place → Name → List Declared → Option Declared → Type 0
Finds at name declared found =
    MatchOption found (All (λ e. means at name e ≡ false) declared) (IsInnermost at name declared)

-- Means of proof: it has a lesser name, or has the name and begins to count before the place.
abbrev pub begins_before : Place → Name → Declared → Bool
begins_before at name d = before_or d.name.0 name.0 (place_before d.extent.after at)
