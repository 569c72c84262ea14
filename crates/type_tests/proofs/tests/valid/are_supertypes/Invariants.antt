use Rattle.std.proofs.Common.{ℕ, ◌<◌, get_or}
use Rattle.dart_ir.specs.Ty.{ty}
use Rattle.dart_ir.specs.declared.types.TypeRef.{TypeRef}
use Rattle.type_tests.specs.Testing.{IsSupertype}
use Rattle.type_tests.proofs.tests.valid.are_supertypes.Given as goal

abbrev pub invariant-loop-u : goal.invariant-loop-u
invariant-loop-u l = (j : ℕ) (d : TypeRef) → j < l.u-index → IsSupertype l.k l.c l.n l.callable (ty (get_or l.us j d))
