use Rattle.class_tests.proofs.Tested.{plain_step, plain_end}
use Rattle.class_tests.proofs.valid.+plain.Goals as goal

pub are_plain-loop-t-preserved : goal.are_plain-loop-t-preserved
are_plain-loop-t-preserved t c = λ rest. plain_step c.args.ts.now c.loop-t.t-index c.t-item.result c.loop-t-test.true c.t-item.is (c.is_plain.ensures c.if-not-is_plain.false) c.loop-t.invariant rest

pub are_plain-returns : goal.are_plain-returns
are_plain-returns t c = λ h. plain_end c.args.ts.now c.loop-t.t-index c.loop-t-test.false c.loop-t.invariant
