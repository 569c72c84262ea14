use Rattle.std.proofs.Common.{length}
use Rattle.machine_lookup.proofs.arguments.+takes_name.Given as goal

abbrev pub decreases-takes_name : goal.decreases-takes_name
decreases-takes_name l = length l.parameters.now
