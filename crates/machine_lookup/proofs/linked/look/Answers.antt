use Rattle.core_program.specs.ProgramView as v
use Rattle.machine_lookup.proofs.Table.{slot_says}
use Rattle.machine_lookup.proofs.linked.look.Goals as goal

pub returns-then-found-name-clause-found : goal.returns-then-found-name-clause-found
returns-then-found-name-clause-found c =
    slot_says (v.program c.args.program.now) c.args.slots.now c.args.at c.in-Some.found.now c.requires c.in-Some.ensures.filled
