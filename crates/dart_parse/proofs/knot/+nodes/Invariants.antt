use Rattle.std.proofs.Common.{◌+◌, ◌*◌}
use Rattle.dart_parse.proofs.knot.+nodes.Given as goal

abbrev pub decreases-expr : goal.decreases-expr
decreases-expr l = l.depth * 2

abbrev pub decreases-parameters : goal.decreases-parameters
decreases-parameters l = l.depth * 2

abbrev pub decreases-block : goal.decreases-block
decreases-block l = l.depth * 2

abbrev pub decreases-stmt : goal.decreases-stmt
decreases-stmt l = l.depth * 2 + 1
