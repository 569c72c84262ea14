use Rattle.core_program.specs.ProgramView as v
use Rattle.machine_lookup.proofs.Table.{slot_put}
use Rattle.machine_lookup.proofs.linked.put.Goals as goal

pub returns-then-free-slots : goal.returns-then-free-slots
returns-then-free-slots c = slot_put (v.program c.args.program.now) c.args.slots.now c.in-Some.free c.look_up.result c.requires c.look_up.ensures
