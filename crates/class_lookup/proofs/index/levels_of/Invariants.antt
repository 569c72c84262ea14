use Rattle.std.proofs.Common.{◌≡◌, ℕ, ◌<◌, Some, slice_get}
use Rattle.dart_ir.specs.declared.class.MemberInfo.{MemberInfo}
use Rattle.class_lookup.specs.Tree.{rest_of}
use Rattle.class_lookup.proofs.index.levels_of.Given as goal

abbrev pub invariant-loop-info : goal.invariant-loop-info
invariant-loop-info l = (j : ℕ) (m : MemberInfo) → j < l.info-index → slice_get l.members j ≡ Some m → rest_of l.levels m.name.0 ≡ 0
