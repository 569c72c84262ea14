use Rattle.std.proofs.Common.{length}
use Rattle.machine_value.proofs.checks.+keep_bounds.Given as goal

abbrev pub decreases-keep_bounds : goal.decreases-keep_bounds
decreases-keep_bounds l = length l.types.now
