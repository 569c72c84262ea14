use Rattle.machine_value.proofs.types.+mixed_in.Given as goal

abbrev pub decreases-mixed_in : goal.decreases-mixed_in
decreases-mixed_in l = l.count
