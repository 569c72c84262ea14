use Rattle.std.proofs.Common.{◌≡◌, ℕ, ◌<◌, get_or}
use Rattle.dart_type.specs.declared.intern.NamedNode.{NamedNode}
use Rattle.dart_type.proofs.intern.are_same_named.Given as goal

abbrev pub invariant-loop-i : goal.invariant-loop-i
invariant-loop-i l = (k : ℕ) (d : NamedNode) → k < l.i → get_or l.ns k d ≡ get_or l.ms k d
