use Rattle.std.proofs.Common.{◌+◌, ◌*◌}
use Rattle.machine_loop.proofs.operators.+nesting.Given as goal

abbrev pub decreases-operand_within : goal.decreases-operand_within
decreases-operand_within l = 4 * l.nesting + 2

abbrev pub decreases-within : goal.decreases-within
decreases-within l = 4 * l.nesting + 1

abbrev pub decreases-row_within : goal.decreases-row_within
decreases-row_within l = 4 * l.nesting

abbrev pub decreases-equal_within : goal.decreases-equal_within
decreases-equal_within l = 4 * l.nesting

abbrev pub decreases-unary_within : goal.decreases-unary_within
decreases-unary_within l = 4 * l.nesting

abbrev pub decreases-tested_within : goal.decreases-tested_within
decreases-tested_within l = 4 * l.nesting + 3

abbrev pub decreases-checked_within : goal.decreases-checked_within
decreases-checked_within l = 4 * l.nesting
