use Rattle.std.proofs.Common.{length}
use Rattle.machine_turn.proofs.fresh.+add_constants.Given as goal

abbrev pub decreases-add_constants : goal.decreases-add_constants
decreases-add_constants l = length l.constants.now
