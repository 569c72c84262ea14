use Rattle.std.proofs.Common.{below_more, arith}
use Rattle.type_tests.proofs.tests.valid.are_classes_valid.Goals as goal

pub loop-c-preserved : goal.loop-c-preserved
loop-c-preserved c = below_more _ _ c.loop-c.invariant (c.is_class_valid.ensures c.if-not-is_class_valid.false)

pub returns : goal.returns
returns c = λ h j l. c.loop-c.invariant j (omega (arith, l, c.loop-c-test.false, c.len-c-end.ensures))
