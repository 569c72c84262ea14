use Rattle.std.proofs.Common.{length}
use Rattle.scope_reason.proofs.main_function.+has_main.Given as goal

abbrev pub decreases-has_main : goal.decreases-has_main
decreases-has_main l = length l.homes.now
