-- Where units stand. Means of proof, which no public contract of a table cites.
use Rattle.std.specs.Prelude.{ℕ, ◌+◌, List, [], ◌∷◌, slice_get, Option}
use Rattle.scope_load.specs.declared.units.UnitName.{UnitName}
use Rattle.class_reader.specs.declared.home.Home.{Home}
use Rattle.dart_class.specs.Given.{is_core, is_user}

abbrev pub home_of : ℕ → Option UnitName → Home
home_of library name = record { library = library; is_user = is_user name; is_core = is_core name }

-- units from a number on, where each belongs to the library of the number
abbrev pub homes_from : List UnitName → ℕ → List ℕ → List Home
homes_from names at [] = []
homes_from names at (library ∷ homes) = home_of library (slice_get names at) ∷ homes_from names (at + 1) homes
