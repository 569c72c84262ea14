use Rattle.std.proofs.Common.{◌≡◌, ℕ, map, take, flat_map}
use Rattle.std.specs.List.{zip}
use Rattle.dart_tree.specs.Unit.{UnitTree}
use Rattle.dart_tree.specs.UnitView as view
use Rattle.dart_scope.specs.Program.{declared_in}
use Rattle.dart_scope.proofs.program.all_declared.Given as goal

abbrev pub invariant-loop-at : goal.invariant-loop-at
invariant-loop-at l = l.all.items ≡ flat_map (λ (p : ℕ × UnitTree). declared_in l.names p.0 p.1) (take l.at (zip l.homes (map view.unit l.units)))
