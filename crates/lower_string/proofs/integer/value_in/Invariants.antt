use Rattle.std.proofs.Common.{◌≡◌, drop}
use Rattle.dart_pieces.specs.Numbers.{value_on}
use Rattle.lower_string.proofs.integer.value_in.Given as goal

abbrev pub invariant-loop-b : goal.invariant-loop-b
invariant-loop-b l = value_on l.base l.value (drop l.b-index l.digits) ≡ value_on l.base 0 l.digits
