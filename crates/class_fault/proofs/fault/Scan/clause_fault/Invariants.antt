use Rattle.std.proofs.Common.{Option, drop}
use Rattle.class_fault.specs.declared.fault.Fault.{Fault}
use Rattle.class_fault.specs.Fault.{IsFirst, in_clause}
use Rattle.class_fault.proofs.fault.Scan.clause_fault.Given as goal

abbrev pub invariant-loop-t : goal.invariant-loop-t
invariant-loop-t l = (f : Option Fault) → IsFirst l.self.program.now l.self.headers.now l.class (in_clause l.clause (drop l.t-index l.types)) f → IsFirst l.self.program.now l.self.headers.now l.class (in_clause l.clause l.types) f
