use Rattle.std.proofs.Common.{◌≡◌, ◌++◌, map}
use Rattle.std.specs.List.{zip}
use Rattle.dart_lower.specs.Given.{source_unit}
use Rattle.dart_tree.specs.UnitView as view
use Rattle.lower_leaf.specs.Around.{Around}
use Rattle.lower_program.specs.Views as translated
use Rattle.dart_lower.proofs.Units.{paired}
use Rattle.dart_lower.proofs.unit.source_units.Given as goal

-- those that are made, and those that are left, are all
abbrev pub invariant-loop-place : goal.invariant-loop-place
invariant-loop-place l = (a : Around) → map (translated.source_unit a) l.made.items ++ map (source_unit a) (paired l.homes l.units l.place)
    ≡ map (source_unit a) (zip l.homes (map view.unit l.units))
