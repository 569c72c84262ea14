use Rattle.std.proofs.Common.{length}
use Rattle.machine_lookup.proofs.arguments.+named_value.Given as goal

abbrev pub decreases-named_value : goal.decreases-named_value
decreases-named_value l = length l.names.now
