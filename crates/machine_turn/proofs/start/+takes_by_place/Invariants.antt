use Rattle.std.proofs.Common.{length}
use Rattle.machine_turn.proofs.start.+takes_by_place.Given as goal

abbrev pub decreases-takes_by_place : goal.decreases-takes_by_place
decreases-takes_by_place l = length l.parameters.now
