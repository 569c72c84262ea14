use Rattle.std.proofs.Common.{◌≡◌, ◌++◌, List, ℕ, drop, map}
use Rattle.std.specs.List.{enumerate_from}
use Rattle.core_program.specs.Program as p
use Rattle.lower_table.specs.Rows.{added_row, added_rows}
use Rattle.lower_table.specs.Seen.{rows}
use Rattle.lower_table.proofs.row.added_rows.Given as goal

-- those that are made, and those of what is left, are all
abbrev pub invariant-loop-info : goal.invariant-loop-info
invariant-loop-info l = record {
  count : l.place ≡ l.info-index;
  known : (texts : List (List ℕ)) → l.made.items ++ map (λ (x : ℕ × p.Class (List ℕ)). added_row (rows texts l.classes) l.applications l.declared x.0 x.1) (enumerate_from l.place (rows texts (drop l.info-index l.classes)))
      ≡ added_rows (rows texts l.classes) l.applications l.declared;
}
