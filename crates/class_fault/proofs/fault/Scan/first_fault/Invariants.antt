use Rattle.std.proofs.Common.{Option}
use Rattle.class_fault.specs.declared.fault.Fault.{Fault}
use Rattle.class_fault.specs.Fault.{IsFirstFrom}
use Rattle.class_fault.proofs.fault.Scan.first_fault.Given as goal

abbrev pub invariant-loop-class : goal.invariant-loop-class
invariant-loop-class l = (f : Option Fault) → IsFirstFrom l.self.program.now l.self.headers.now l.class f → IsFirstFrom l.self.program.now l.self.headers.now 0 f
