use Rattle.std.proofs.Common.{ap, arith}
use Rattle.dart_tree.specs.Depth as height
use Rattle.parse_parameter.proofs.variable.function.Goals as goal

pub returns : goal.returns
unfolding height.function_height
returns c =
    let k = ap height.function_height c.function.ensures in
    record { same = c.function.ensures; high = omega arith }
