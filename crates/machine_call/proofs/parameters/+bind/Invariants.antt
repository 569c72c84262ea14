use Rattle.std.proofs.Common.{length}
use Rattle.machine_call.proofs.parameters.+bind.Given as goal

abbrev pub decreases-bind : goal.decreases-bind
decreases-bind l = length l.rest.now
