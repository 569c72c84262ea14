use Rattle.std.proofs.Common.{◌≡◌, ◌++◌, drop}
use Rattle.dart_node.proofs.leaf.try_clone_dot_names.Given as goal

-- what was copied and what is left to copy are all
abbrev pub invariant-loop-name : goal.invariant-loop-name
invariant-loop-name l = l.found.items ++ drop l.name-index l.names.items ≡ l.names.items
