use Rattle.std.proofs.Common.{ℕ, ◌<◌, get_or}
use Rattle.dart_ir.specs.Ty.{function_ty}
use Rattle.class_fault.specs.declared.program.Member.{Member}
use Rattle.class_table.specs.Program.{IsFormedIn}
use Rattle.class_tests.proofs.valid.are_members.Given as goal

abbrev pub invariant-loop-m : goal.invariant-loop-m
invariant-loop-m l = (j : ℕ) (d : Member) → j < l.m-index → IsFormedIn l.p l.n (function_ty (get_or l.members j d).signature)
