use Rattle.std.proofs.Common.{◌≡◌, ℕ, ◌<◌, Some}
use Rattle.dart_ir.specs.Classes.{IsValidClass, class_at}
use Rattle.dart_ir.specs.declared.class.ClassInfo.{ClassInfo}
use Rattle.type_tests.proofs.tests.valid.are_classes_valid.Given as goal

abbrev pub invariant-loop-c : goal.invariant-loop-c
invariant-loop-c l = (j : ℕ) → j < l.c → (i : ClassInfo) → class_at l.k j ≡ Some i → IsValidClass l.k j i
