use Rattle.std.proofs.Common.{arith}
use Rattle.class_order.proofs.Ordered.{ordered, no_cycle}
use Rattle.class_order.proofs.order.order.Goals as goal

pub returns-clause-order : goal.returns-clause-order
returns-clause-order c = ordered c.args.headers.now c.loop-root.walk.marks.items c.loop-root.walk.order.items c.loop-root.invariant.walk (λ d l. c.loop-root.invariant.touched d (omega (arith, l, c.loop-root-test.false)))

pub returns-clause-acyclic : goal.returns-clause-acyclic
returns-clause-acyclic c = no_cycle c.args.headers.now c.loop-root.walk.order.items (ordered c.args.headers.now c.loop-root.walk.marks.items c.loop-root.walk.order.items c.loop-root.invariant.walk (λ d l. c.loop-root.invariant.touched d (omega (arith, l, c.loop-root-test.false))))
