use Rattle.std.proofs.Common.{◌≡◌, map, take}
use Rattle.dart_ir.specs.Ty.{ty, named_ty}
use Rattle.dart_ir.proofs.types.+copying.Given as goal

abbrev pub invariant-try_clone_types-loop-one : goal.invariant-try_clone_types-loop-one
invariant-try_clone_types-loop-one l = map ty l.copies.items ≡ map ty (take l.one-index l.types)

abbrev pub invariant-try_clone_named_types-loop-one : goal.invariant-try_clone_named_types-loop-one
invariant-try_clone_named_types-loop-one l = map named_ty l.copies.items ≡ map named_ty (take l.one-index l.named)
