use Rattle.class_size.proofs.Bounded.{count_more, count_all}
use Rattle.std.proofs.Common.{refl}
use Rattle.dart_type.specs.Instance.{node_counts}
use Rattle.dart_ir.specs.Ty.{tys}
use Rattle.class_size.proofs.bound.+counting.Goals as goal

pub size_of_all-loop-t-preserved : goal.size_of_all-loop-t-preserved
size_of_all-loop-t-preserved t c = record {
  bounded = c.capped-sum.ensures.bounded;
  counted = count_more c.args.types.now c.loop-t.t-index c.size.result c.loop-t.sum c.capped-sum.result (node_counts (tys c.args.types.now)) c.t-item.result c.t-item.is c.loop-t-test.true c.size.ensures.counted c.capped-sum.ensures.same c.loop-t.invariant.counted;
}

pub size_of_all-returns-clause-counted : goal.size_of_all-returns-clause-counted
size_of_all-returns-clause-counted t c = count_all c.args.types.now c.loop-t.t-index c.loop-t.sum (node_counts (tys c.args.types.now)) c.loop-t-test.false c.loop-t.invariant.counted
