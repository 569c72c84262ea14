use Rattle.std.proofs.Common.{◌≡◌, ◌++◌, drop}
use Rattle.dart_node.proofs.leaf.try_clone_labels.Given as goal

-- what was copied and what is left to copy are all
abbrev pub invariant-loop-label : goal.invariant-loop-label
invariant-loop-label l = l.found.items ++ drop l.label-index l.labels.items ≡ l.labels.items
