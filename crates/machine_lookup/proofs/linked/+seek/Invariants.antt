use Rattle.machine_lookup.proofs.linked.+seek.Given as goal

abbrev pub decreases-seek : goal.decreases-seek
decreases-seek l = l.tries
