use Rattle.std.proofs.Common.{length}
use Rattle.scope_name.proofs.table.+add_kept.Given as goal

abbrev pub decreases-add_kept : goal.decreases-add_kept
decreases-add_kept l = length l.homes.now
