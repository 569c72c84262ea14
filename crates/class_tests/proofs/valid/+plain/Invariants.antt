use Rattle.std.proofs.Common.{drop}
use Rattle.dart_ir.specs.Ty.{tys}
use Rattle.dart_ir.specs.Classes.{ArePlain}
use Rattle.class_tests.proofs.valid.+plain.Given as goal

abbrev pub invariant-are_plain-loop-t : goal.invariant-are_plain-loop-t
invariant-are_plain-loop-t l = ArePlain (tys (drop l.t-index l.ts)) → ArePlain (tys l.ts)
