use Rattle.std.proofs.Common.{◌≡◌}
use Rattle.dart_ir.specs.Ty.{tys}
use Rattle.class_table.specs.Rows.{parameters_from}
use Rattle.class_table.proofs.row.parameters.Given as goal

abbrev pub invariant-loop-i : goal.invariant-loop-i
invariant-loop-i l = tys l.arguments.items ≡ parameters_from 0 l.i
