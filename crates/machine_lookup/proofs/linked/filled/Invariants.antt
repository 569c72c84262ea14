use Rattle.core_program.specs.ProgramView as v
use Rattle.machine_lookup.specs.Found.{AreFound}
use Rattle.machine_lookup.proofs.linked.filled.Given as goal

abbrev pub invariant-loop-class : goal.invariant-loop-class
invariant-loop-class l = AreFound (v.program l.program) l.slots.items
