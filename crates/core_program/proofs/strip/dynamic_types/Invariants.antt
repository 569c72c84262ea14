use Rattle.std.proofs.Common.{◌≡◌, map, take}
use Rattle.dart_ir.specs.Ty.{ty, dynamic}
use Rattle.core_program.proofs.strip.dynamic_types.Given as goal

abbrev pub invariant-loop-one : goal.invariant-loop-one
invariant-loop-one l = map ty l.made.items ≡ map (λ _. dynamic) (map ty (take l._one-index l.types))
