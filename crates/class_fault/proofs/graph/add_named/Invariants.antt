use Rattle.std.proofs.Common.{◌≡◌, ◌++◌, take}
use Rattle.class_fault.specs.Graph.{named_classes}
use Rattle.class_fault.proofs.graph.add_named.Given as goal

abbrev pub invariant-loop-t : goal.invariant-loop-t
invariant-loop-t l = l.above.items ≡ l.fn.above.items ++ named_classes (take l.t-index l.types)
