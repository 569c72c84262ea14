use Rattle.std.proofs.Common.{ℕ, ◌<◌, Option, get_or}
use Rattle.dart_ir.specs.declared.types.TypeRef.{TypeRef}
use Rattle.class_table.specs.Program.{IsBoundFormedIn}
use Rattle.class_tests.proofs.valid.has_no_bounds.Given as goal

abbrev pub invariant-loop-bound : goal.invariant-loop-bound
invariant-loop-bound l = (j : ℕ) (d : Option TypeRef) → j < l.bound-index → IsBoundFormedIn l.p l.n (get_or l.bounds j d)
