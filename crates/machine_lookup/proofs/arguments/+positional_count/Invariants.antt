use Rattle.std.proofs.Common.{length}
use Rattle.machine_lookup.proofs.arguments.+positional_count.Given as goal

abbrev pub decreases-positional_count : goal.decreases-positional_count
decreases-positional_count l = length l.parameters.now
