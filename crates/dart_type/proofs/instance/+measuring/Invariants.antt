use Rattle.std.proofs.Common.{◌≡◌, ◌+◌, drop}
use Rattle.dart_ir.specs.Ty.{tys, named_tys}
use Rattle.dart_type.specs.Instance.{node_counts, named_node_count}
use Rattle.dart_type.proofs.instance.+measuring.Given as goal

abbrev pub invariant-room_after_all-loop-t : goal.invariant-room_after_all-loop-t
invariant-room_after_all-loop-t l = l.left + node_counts (tys l.fn.ts) ≡ l.room + node_counts (tys (drop l.t-index l.ts))

abbrev pub invariant-room_after_named-loop-n : goal.invariant-room_after_named-loop-n
invariant-room_after_named-loop-n l = l.left + named_node_count (named_tys l.fn.ns) ≡ l.room + named_node_count (named_tys (drop l.n-index l.ns))
