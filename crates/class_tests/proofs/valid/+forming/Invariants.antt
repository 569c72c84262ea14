use Rattle.std.proofs.Common.{drop}
use Rattle.dart_ir.specs.Ty.{tys, named_tys}
use Rattle.class_table.specs.Program.{AreFormedIn, AreNamedFormedIn}
use Rattle.class_tests.proofs.valid.+forming.Given as goal

abbrev pub invariant-are_formed-loop-t : goal.invariant-are_formed-loop-t
invariant-are_formed-loop-t l = AreFormedIn l.p l.n (tys (drop l.t-index l.ts)) → AreFormedIn l.p l.n (tys l.ts)

abbrev pub invariant-are_named_formed-loop-m : goal.invariant-are_named_formed-loop-m
invariant-are_named_formed-loop-m l = AreNamedFormedIn l.p l.n (named_tys (drop l.m-index l.ns)) → AreNamedFormedIn l.p l.n (named_tys l.ns)
