use Rattle.std.proofs.Common.{◌≡◌, map}
use Rattle.std.specs.List.{range_with_len}
use Rattle.dart_ir.specs.Ty.{parameter}
use Rattle.lower_leaf.specs.Around.{types}
use Rattle.lower_class.proofs.factory.own_parameters.Given as goal

abbrev pub invariant-loop-index : goal.invariant-loop-index
invariant-loop-index g l = types (g.S.Surroundings.around l.outside) l.given.items ≡ map parameter (range_with_len 0 l.index)
