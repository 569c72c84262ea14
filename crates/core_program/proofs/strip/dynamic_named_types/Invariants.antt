use Rattle.std.proofs.Common.{◌≡◌, map, take}
use Rattle.dart_ir.specs.Ty.{named_ty}
use Rattle.core_program.specs.Loose.{loose_named}
use Rattle.core_program.proofs.strip.dynamic_named_types.Given as goal

abbrev pub invariant-loop-one : goal.invariant-loop-one
invariant-loop-one l = map named_ty l.made.items ≡ map loose_named (map named_ty (take l.one-index l.named))
