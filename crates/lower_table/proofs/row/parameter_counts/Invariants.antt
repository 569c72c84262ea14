use Rattle.std.proofs.Common.{◌≡◌, List, ℕ, take}
use Rattle.lower_table.specs.Rows.{parameter_counts}
use Rattle.lower_table.specs.Seen.{rows}
use Rattle.lower_table.proofs.row.parameter_counts.Given as goal

abbrev pub invariant-loop-info : goal.invariant-loop-info
invariant-loop-info l = (texts : List (List ℕ)) → l.made.items ≡ parameter_counts (rows texts (take l.info-index l.classes))
