use Rattle.std.proofs.Common.{◌≡◌, ◌≤◌, drop}
use Rattle.dart_pieces.specs.Numbers.{value_on}
use Rattle.dart_pieces.proofs.numbers.exceeds.Given as goal

abbrev pub invariant-loop-b : goal.invariant-loop-b
invariant-loop-b l = record {
  within : l.value ≤ l.limit;
  value : value_on l.base 0 l.digits ≡ value_on l.base l.value (drop l.b-index l.digits);
}
