use Rattle.std.proofs.Common.{◌≡◌, List, ℕ, take}
use Rattle.lower_table.specs.Rows.{row_declarations}
use Rattle.lower_table.specs.Seen.{rows}
use Rattle.lower_table.proofs.row.row_declarations.Given as goal

abbrev pub invariant-loop-info : goal.invariant-loop-info
invariant-loop-info l = (texts : List (List ℕ)) → l.made.items ≡ row_declarations (rows texts (take l.info-index l.classes))
