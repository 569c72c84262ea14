use Rattle.std.proofs.Common.{drop}
use Rattle.dart_ir.specs.Ty.{tys, named_tys}
use Rattle.dart_ir.specs.Classes.{AreFormed, AreNamedFormed}
use Rattle.type_tests.proofs.tests.valid.+forming.Given as goal

abbrev pub invariant-are_formed-loop-t : goal.invariant-are_formed-loop-t
invariant-are_formed-loop-t l = AreFormed l.k l.n (tys (drop l.t-index l.ts)) → AreFormed l.k l.n (tys l.ts)

abbrev pub invariant-are_named_formed-loop-m : goal.invariant-are_named_formed-loop-m
invariant-are_named_formed-loop-m l = AreNamedFormed l.k l.n (named_tys (drop l.m-index l.ns)) → AreNamedFormed l.k l.n (named_tys l.ns)
