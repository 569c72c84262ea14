-- the types so far are the same
use Rattle.std.proofs.Common.{◌≡◌, map, take}
use Rattle.dart_ir.specs.Ty.{ty, named_ty}
use Rattle.dart_store.proofs.same.+same.Given as goal

abbrev pub invariant-are_same-loop-i : goal.invariant-are_same-loop-i
invariant-are_same-loop-i l = map ty (take l.i l.ts) ≡ map ty (take l.i l.us)

abbrev pub invariant-are_same_named-loop-i : goal.invariant-are_same_named-loop-i
invariant-are_same_named-loop-i l = map named_ty (take l.i l.ns) ≡ map named_ty (take l.i l.ms)
