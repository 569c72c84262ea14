use Rattle.std.proofs.Common.{◌+◌, ◌*◌}
use Rattle.parse_unary.proofs.unary.+unaries.Given as goal

abbrev pub decreases-negated : goal.decreases-negated
decreases-negated g l = l.depth * 4

abbrev pub decreases-inverted : goal.decreases-inverted
decreases-inverted g l = l.depth * 4

abbrev pub decreases-roomy : goal.decreases-roomy
decreases-roomy g l = l.depth * 4 + 1

abbrev pub decreases-unary : goal.decreases-unary
decreases-unary g l = l.depth * 4 + 2

abbrev pub decreases-whole : goal.decreases-whole
decreases-whole g l = l.depth * 4 + 3
