use Rattle.dart_tree.specs.Lists.{type_list_of}
use Rattle.dart_node.proofs.Copies.{Done}
use Rattle.dart_node.proofs.leaf.+types.Given as goal

abbrev pub invariant-try_clone_type_list-loop-one : goal.invariant-try_clone_type_list-loop-one
invariant-try_clone_type_list-loop-one l = Done type_list_of type_list_of l.found.items l.one-index l.listed.items
