use Rattle.std.proofs.Common.{sym, subst}
use Rattle.core_program.specs.ProgramView as v
use Rattle.machine_lookup.specs.Found.{AreFound}
use Rattle.machine_lookup.proofs.Table.{none_found}
use Rattle.machine_lookup.proofs.linked.filled.Goals as goal

pub loop-class-init : goal.loop-class-init
loop-class-init c =
    subst (AreFound (v.program c.args.program.now)) (sym c.in_ok-slots.ensures) (none_found (v.program c.args.program.now) c.slot_count.result)
