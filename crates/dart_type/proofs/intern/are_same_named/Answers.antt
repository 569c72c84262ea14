use Rattle.std.proofs.Common.{arith}
use Rattle.dart_type.proofs.Interned.{same_list}
use Rattle.dart_type.proofs.intern.are_same_named.Goals as goal

pub returns : goal.returns
returns c = λ h. same_list c.args.ns.now c.args.ms.now c.if-ns-ms.false (λ k d l. c.loop-i.invariant k d (omega (arith, l, c.loop-i-test.false)))
