-- so many nulls so far
use Rattle.std.proofs.Common.{◌≡◌}
use Rattle.std.specs.Prelude.{replicate}
use Rattle.dart_ir.specs.declared.value.Value.TheVariants.{Null}
use Rattle.native_list.proofs.made.nulls.Given as goal

abbrev pub invariant-loop-added : goal.invariant-loop-added
invariant-loop-added l = l.items.items ≡ replicate l._added Null
