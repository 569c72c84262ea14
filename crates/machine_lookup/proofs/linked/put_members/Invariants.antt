use Rattle.core_program.specs.ProgramView as v
use Rattle.machine_lookup.specs.Found.{AreFound}
use Rattle.machine_lookup.proofs.linked.put_members.Given as goal

abbrev pub invariant-loop-one : goal.invariant-loop-one
invariant-loop-one l = AreFound (v.program l.program) l.slots
