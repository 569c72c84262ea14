use Rattle.std.proofs.Common.{length}
use Rattle.lower_annotation.proofs.declaration.+add_units.Given as goal

abbrev pub decreases-add_units : goal.decreases-add_units
decreases-add_units l = length l.homes.now
