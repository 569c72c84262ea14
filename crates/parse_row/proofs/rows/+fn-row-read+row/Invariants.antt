use Rattle.std.proofs.Common.{◌+◌, ◌*◌}
use Rattle.parse_row.proofs.rows.+fn-row-read+row.Given as goal

abbrev pub decreases-read : goal.decreases-read
decreases-read g l = l.under * 2 + 1

abbrev pub decreases-row : goal.decreases-row
decreases-row g l = l.depth * 2
