use Rattle.std.proofs.Common.{below_more, arith}
use Rattle.class_tests.proofs.valid.are_declarations.Goals as goal

pub loop-d-preserved : goal.loop-d-preserved
loop-d-preserved c = below_more _ _ c.loop-d.invariant (c.is_declaration_at.ensures c.if-not-is_declaration_at.false)

pub returns : goal.returns
returns c = λ h j l. c.loop-d.invariant j (omega (arith, l, c.loop-d-test.false, c.len-d-end.ensures, c.args.p.now.declarations.ok.0))
