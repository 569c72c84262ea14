use Rattle.std.proofs.Common.{ℕ, ◌<◌, Option, get_or}
use Rattle.dart_ir.specs.declared.types.TypeRef.{TypeRef}
use Rattle.dart_ir.specs.Classes.{IsBoundFormed}
use Rattle.type_tests.proofs.tests.valid.has_no_bounds.Given as goal

abbrev pub invariant-loop-bound : goal.invariant-loop-bound
invariant-loop-bound l = (j : ℕ) (d : Option TypeRef) → j < l.bound-index → IsBoundFormed l.k l.n (get_or l.bounds j d)
