use Rattle.std.proofs.Common.{◌≡◌}
use Rattle.class_lookup.specs.Tree.{rest_of}
use Rattle.class_lookup.proofs.index.digits.Given as goal

abbrev pub invariant-loop-n : goal.invariant-loop-n
invariant-loop-n l = rest_of l.n l.name ≡ l.rest
