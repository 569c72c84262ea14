use Rattle.std.proofs.Common.{◌≡◌, ◌++◌, map, take}
use Rattle.dart_ir.specs.Ty.{ty}
use Rattle.class_table.specs.Renumbered.{renumbered}
use Rattle.class_table.proofs.renumber.add_header_types.Given as goal

abbrev pub invariant-loop-t : goal.invariant-loop-t
invariant-loop-t l = map ty l.types.items ≡ map ty l.fn.types.items ++ map (λ t. renumbered l.numbers (ty t.of)) (take l.t-index l.named)
