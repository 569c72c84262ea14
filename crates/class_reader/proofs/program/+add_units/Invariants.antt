use Rattle.std.proofs.Common.{length}
use Rattle.class_reader.proofs.program.+add_units.Given as goal

abbrev pub decreases-add_units : goal.decreases-add_units
decreases-add_units g l = length l.homes.now
