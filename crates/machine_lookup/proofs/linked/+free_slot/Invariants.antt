use Rattle.machine_lookup.proofs.linked.+free_slot.Given as goal

abbrev pub decreases-free_slot : goal.decreases-free_slot
decreases-free_slot l = l.tries
