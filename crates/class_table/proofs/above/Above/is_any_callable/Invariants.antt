use Rattle.std.proofs.Common.{◌≡◌, map, drop}
use Rattle.dart_ir.specs.Ty.{ty}
use Rattle.class_table.specs.Rows.{any_callable}
use Rattle.class_table.proofs.above.Above.is_any_callable.Given as goal

abbrev pub invariant-loop-t : goal.invariant-loop-t
invariant-loop-t l = any_callable l.self.classes.now (map ty (drop l.t-index l.types)) ≡ any_callable l.self.classes.now (map ty l.types)
