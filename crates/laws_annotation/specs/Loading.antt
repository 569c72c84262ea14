-- Units that are given by their numbers and names, and the same units, each erased.
use Rattle.std.specs.Prelude.{◌≡◌, ℕ}
use Rattle.dart_erase.specs.UnitErased as erased
use Rattle.scope_load.specs.Found.{FoundIs, absent, refused, read, Giving}
use Rattle.scope_load.specs.declared.units.UnitName.{UnitName}

-- no file, a text that is no unit, or the unit erased, with its weight
abbrev pub erased_found : FoundIs → FoundIs
erased_found absent = absent
erased_found (refused reason) = refused reason
erased_found (read unit weight) = read (erased.unit unit) weight

abbrev pub GivenBy : (ℕ → UnitName → FoundIs) → Giving
GivenBy give number name found = found ≡ give number name

abbrev pub GivenErasedBy : (ℕ → UnitName → FoundIs) → Giving
GivenErasedBy give number name found = found ≡ erased_found (give number name)
