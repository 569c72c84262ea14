use Rattle.std.proofs.Common.{ℕ, map, take}
use Rattle.std.specs.List.{AllZip, zip}
use Rattle.dart_tree.specs.Unit.{UnitTree}
use Rattle.dart_tree.specs.UnitView as view
use Rattle.dart_scope.specs.declared.program.SourceUnit.{SourceUnit}
use Rattle.dart_scope.specs.Program.{IsUnit}
use Rattle.dart_scope.proofs.program.source_units.Given as goal

abbrev pub invariant-loop-at : goal.invariant-loop-at
invariant-loop-at l = AllZip (λ (p : ℕ × UnitTree) (unit : SourceUnit). IsUnit l.names p.0 p.1 unit) (take l.at (zip l.homes (map view.unit l.units))) l.made.items
