use Rattle.std.proofs.Common.{length}
use Rattle.machine_lookup.proofs.arguments.+required_count.Given as goal

abbrev pub decreases-required_count : goal.decreases-required_count
decreases-required_count l = length l.parameters.now
