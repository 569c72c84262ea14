use Rattle.std.proofs.Common.{◌≡◌, drop}
use Rattle.dart_ir.specs.Ty.{tys, named_tys}
use Rattle.type_test.specs.Test.{are_formed, are_named_formed}
use Rattle.type_test.proofs.formed.+forming.Given as goal

abbrev pub invariant-are_formed-loop-t : goal.invariant-are_formed-loop-t
invariant-are_formed-loop-t l = are_formed l.classes (tys l.ts) ≡ are_formed l.classes (tys (drop l.t-index l.ts))

abbrev pub invariant-are_named_formed-loop-one : goal.invariant-are_named_formed-loop-one
invariant-are_named_formed-loop-one l = are_named_formed l.classes (named_tys l.named) ≡ are_named_formed l.classes (named_tys (drop l.one-index l.named))
