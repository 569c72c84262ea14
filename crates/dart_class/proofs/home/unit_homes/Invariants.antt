use Rattle.std.proofs.Common.{◌≡◌, ◌++◌, drop}
use Rattle.dart_class.specs.Homes.{homes_from}
use Rattle.dart_class.proofs.home.unit_homes.Given as goal

abbrev pub invariant-loop-at : goal.invariant-loop-at
invariant-loop-at l = l.made.items ++ homes_from l.names l.at (drop l.at l.homes) ≡ homes_from l.names 0 l.homes
