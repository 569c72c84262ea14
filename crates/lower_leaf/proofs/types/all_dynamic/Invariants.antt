use Rattle.std.proofs.Common.{◌≡◌, replicate}
use Rattle.dart_ir.specs.Ty.{dynamic}
use Rattle.lower_leaf.specs.Around.{types}
use Rattle.lower_leaf.proofs.types.all_dynamic.Given as goal

abbrev pub invariant-loop-one : goal.invariant-loop-one
invariant-loop-one g l = types (g.S.Surroundings.around l.outside) l.made.items ≡ replicate l._one dynamic
