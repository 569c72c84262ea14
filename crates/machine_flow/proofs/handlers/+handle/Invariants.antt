use Rattle.std.proofs.Common.{length}
use Rattle.machine_flow.proofs.handlers.+handle.Given as goal

abbrev pub decreases-handle : goal.decreases-handle
decreases-handle l = length l.handlers.now
