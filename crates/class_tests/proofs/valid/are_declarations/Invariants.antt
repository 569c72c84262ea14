use Rattle.std.proofs.Common.{◌≡◌, ℕ, ◌<◌, Some}
use Rattle.class_fault.specs.Program.{declaration_at}
use Rattle.class_fault.specs.declared.program.Declaration.{Declaration}
use Rattle.class_table.specs.Program.{IsDeclaration}
use Rattle.class_tests.proofs.valid.are_declarations.Given as goal

abbrev pub invariant-loop-d : goal.invariant-loop-d
invariant-loop-d l = (j : ℕ) → j < l.d → (i : Declaration) → declaration_at l.p j ≡ Some i → IsDeclaration l.p i
