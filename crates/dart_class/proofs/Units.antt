-- The units of a program, as they are read.
use Rattle.std.proofs.Common.{◌≡◌, ℕ, ◌+◌, List, [], ◌∷◌, map, refl, ap}
use Rattle.std.specs.Prelude.{slice_get}
use Rattle.dart_tree.specs.UnitView as view
use Rattle.dart_tree.specs.declared.unit.Unit.{Unit}
use Rattle.scope_load.specs.declared.units.UnitName.{UnitName}
use Rattle.class_reader.specs.Given as reader
use Rattle.dart_class.specs.Given.{source_unit, source_units_from}
use Rattle.dart_class.specs.Homes.{homes_from}

pub units-same : (names : List UnitName) (at : ℕ) (homes : List ℕ) (units : List Unit)
    → reader.source_units (homes_from names at homes) units ≡ source_units_from names at homes (map view.unit units)
units-same names at [] units = refl
units-same names at (library ∷ homes) [] = refl
units-same names at (library ∷ homes) (unit ∷ units) =
    ap (λ l. source_unit library (slice_get names at) (view.unit unit) ∷ l) (units-same names (at + 1) homes units)
