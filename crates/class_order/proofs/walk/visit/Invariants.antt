use Rattle.std.proofs.Common.{ℕ, ◌+◌}
use Rattle.class_order.specs.Walk.{IsWalk, IsTouched, untouched, waiting}
use Rattle.class_order.proofs.walk.visit.Given as goal

abbrev pub invariant-loop-frame : goal.invariant-loop-frame
invariant-loop-frame l = record {
  walk : IsWalk l.headers l.walk.marks.items l.walk.order.items l.walk.stack.items;
  root : IsTouched l.walk.marks.items l.root;
  touched : (d : ℕ) → IsTouched l.fn.walk.marks.items d → IsTouched l.walk.marks.items d;
}

abbrev pub decreases-loop-frame : goal.decreases-loop-frame
decreases-loop-frame l = untouched l.walk.marks.items l.headers + waiting l.headers l.walk.stack.items
