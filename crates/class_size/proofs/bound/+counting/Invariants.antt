use Rattle.std.proofs.Common.{◌≡◌, ◌+◌, ◌≤◌, drop}
use Rattle.dart_base.specs.declared.limit.TheConstants.{TYPE_NODES}
use Rattle.dart_ir.specs.Ty.{tys}
use Rattle.dart_type.specs.Instance.{node_counts}
use Rattle.class_size.proofs.bound.+counting.Given as goal

abbrev pub invariant-size_of_all-loop-t : goal.invariant-size_of_all-loop-t
invariant-size_of_all-loop-t l = record {
  bounded : l.sum ≤ TYPE_NODES + 1;
  counted : l.sum ≤ TYPE_NODES → l.sum + node_counts (tys (drop l.t-index l.types)) ≡ node_counts (tys l.types);
}
