use Rattle.std.proofs.Common.{ℕ, ◌<◌, get_or}
use Rattle.class_fault.specs.declared.program.HeaderType.{HeaderType}
use Rattle.class_table.specs.Program.{IsHeaderType}
use Rattle.class_tests.proofs.valid.are_header_types.Given as goal

abbrev pub invariant-loop-t : goal.invariant-loop-t
invariant-loop-t l = (j : ℕ) (d : HeaderType) → j < l.t-index → IsHeaderType l.p l.n (get_or l.types j d)
