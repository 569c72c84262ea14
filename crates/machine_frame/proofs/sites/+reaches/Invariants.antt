use Rattle.machine_frame.proofs.sites.+reaches.Given as goal

abbrev pub decreases-reaches : goal.decreases-reaches
decreases-reaches l = l.levels
