use Rattle.std.proofs.Common.{ℕ, ◌<◌, get_or}
use Rattle.class_tests.proofs.valid.are_below.Given as goal

abbrev pub invariant-loop-class : goal.invariant-loop-class
invariant-loop-class l = (k : ℕ) → k < l.class-index → get_or l.classes k 0 < l.count
