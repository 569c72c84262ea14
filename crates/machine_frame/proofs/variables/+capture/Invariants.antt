use Rattle.std.proofs.Common.{length}
use Rattle.machine_frame.proofs.variables.+capture.Given as goal

abbrev pub decreases-capture : goal.decreases-capture
decreases-capture l = length l.vars.now
