use Rattle.std.proofs.Common.{length}
use Rattle.machine_value.proofs.types.+close_all.Given as goal

abbrev pub decreases-close_all : goal.decreases-close_all
decreases-close_all l = length l.types.now
