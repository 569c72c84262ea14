use Rattle.std.proofs.Common.{◌≡◌, length}
use Rattle.class_size.specs.Bound.{AreBounds}
use Rattle.class_size.proofs.bound.bounds_of.Given as goal

abbrev pub invariant-loop-info : goal.invariant-loop-info
invariant-loop-info l = record {
  bounds : AreBounds l.classes l.bounds.items;
  size : length l.bounds.items ≡ l.info-index;
}
