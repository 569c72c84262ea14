use Rattle.std.proofs.Common.{◌≡◌, take}
use Rattle.dart_base.proofs.names.Names.try_clone.Given as goal

abbrev pub invariant-loop-number : goal.invariant-loop-number
invariant-loop-number l = l.copy ≡ take l.number l.self
