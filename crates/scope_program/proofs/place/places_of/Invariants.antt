use Rattle.std.proofs.Common.{◌≡◌, take}
use Rattle.dart_base.specs.declared.place.Place.{Place}
use Rattle.scope_program.specs.Classes.{position_of}
use Rattle.scope_program.specs.Places.{at_spot, spot_of}
use Rattle.scope_program.proofs.place.places_of.Given as goal

-- the places of the first declarations
abbrev pub invariant-loop-one : goal.invariant-loop-one
invariant-loop-one l = record {
  count : l.number ≡ l.one-index;
  known : (place : Place) → at_spot l.numbers (spot_of place) ≡ position_of (take l.one-index l.numbered) place;
}
