use Rattle.machine_lookup.proofs.member.+up.Given as goal

abbrev pub decreases-up : goal.decreases-up
decreases-up l = l.count
