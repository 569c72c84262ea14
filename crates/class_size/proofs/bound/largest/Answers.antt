use Rattle.class_size.proofs.Bounded.{most_more, most_all}
use Rattle.std.proofs.Common.{arith}
use Rattle.class_size.proofs.bound.largest.Goals as goal

pub loop-t-preserved : goal.loop-t-preserved
loop-t-preserved c = record {
  positive = let p = c.loop-t.invariant.positive in let q = c.max-most.ensures in omega (arith, p, q);
  seen = most_more c.args.args.now c.loop-t.t-index c.size.result c.loop-t.most c.max-most.result c.t-item.result c.t-item.is c.loop-t-test.true c.max-most.ensures c.size.ensures.counted c.loop-t.invariant.seen;
}

pub returns-clause-most : goal.returns-clause-most
returns-clause-most c = most_all c.args.args.now c.loop-t.t-index c.loop-t.most c.loop-t-test.false c.loop-t.invariant.seen
