-- What a table has that finds the numbers of declarations by places.
use Rattle.std.specs.Prelude.{ℕ, ◌==◌, ◌&&◌, Bool, Option}
use Rattle.std.specs.HashMap.{HashMap, get_by}
use Rattle.dart_base.specs.declared.place.Place.{Place}
use Rattle.scope_program.specs.declared.place.Spot.{Spot}
use Rattle.scope_program.specs.declared.place.Places.{Places}

abbrev pub spot_of : Place → Spot
spot_of place = record { unit = place.unit; line = place.line; column = place.column }

abbrev pub is_spot : Spot → Spot → Bool
is_spot x y = x.unit == y.unit && (x.line == y.line && x.column == y.column)

-- the number that stands under a place
abbrev pub at_spot : {X S : Type 0} → HashMap Spot X S → Spot → Option X
at_spot map spot = get_by (is_spot spot) map

abbrev pub at_place : Places → Place → Option ℕ
at_place made place = at_spot made.numbers (spot_of place)
