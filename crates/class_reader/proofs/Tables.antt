-- A table of the program that was read.
use Rattle.std.proofs.Common.{List, IfOk, Result, Ok, Err}
use Rattle.dart_ir.specs.declared.class.Classes.{Classes}
use Rattle.class_fault.specs.declared.program.Program.{Program}
use Rattle.class_size.specs.Built.{IsSized}
use Rattle.class_size.specs.declared.build.ClassFault.{ClassFault}
use Rattle.translation.specs.Surroundings.{Text}
use Rattle.class_source.specs.Source.{SourceUnit, Given}
use Rattle.class_reader.specs.Built.{IsBuiltFrom, IsRead}

pub built_from : (given : Given) (units : List SourceUnit) (texts : List Text) (p : Program) (found : Result Classes ClassFault) → IsRead given units texts p →
    IfOk found (λ k. IsSized p k) → IfOk found (λ k. IsBuiltFrom given units texts k)
built_from given units texts p (Ok k) read sized = (p, read, sized)
built_from given units texts p (Err fault) read sized = tt
