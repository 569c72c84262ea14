use Rattle.std.proofs.Common.{◌≡◌, take}
use Rattle.lower_table.specs.Rows.{applications}
use Rattle.lower_table.proofs.row.applications.Given as goal

abbrev pub invariant-loop-class : goal.invariant-loop-class
invariant-loop-class l = l.made.items ≡ applications l.mixed (take l.class-index l.classes)
