use Rattle.std.proofs.Common.{◌≡◌, length}
use Rattle.class_lookup.specs.Index.{IsIndexed}
use Rattle.class_lookup.proofs.index.Index.of.Given as goal

abbrev pub invariant-loop-info : goal.invariant-loop-info
invariant-loop-info l = record {
  indexed : IsIndexed l.classes l.nodes.items l.roots.items l.levels;
  size : length l.roots.items ≡ l.info-index;
}
