use Rattle.std.proofs.Common.{ℕ, ◌<◌, get_or, length}
use Rattle.class_order.specs.Order.{above}
use Rattle.class_tests.proofs.valid.are_listed.Given as goal

abbrev pub invariant-loop-header : goal.invariant-loop-header
invariant-loop-header l = (d : ℕ) → d < l.header-index → (k : ℕ) → k < length (above l.headers d) → get_or (above l.headers d) k 0 < length l.headers
