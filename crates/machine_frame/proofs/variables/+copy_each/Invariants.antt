use Rattle.std.proofs.Common.{length}
use Rattle.machine_frame.proofs.variables.+copy_each.Given as goal

abbrev pub decreases-copy_each : goal.decreases-copy_each
decreases-copy_each l = length l.vars.now
