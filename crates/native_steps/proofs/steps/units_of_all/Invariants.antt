-- the units of the values that are left make the sum whole
use Rattle.std.proofs.Common.{◌≡◌, ◌+◌, ◌*◌, ◌≤◌, ◌^◌, drop}
use Rattle.std.specs.Prelude.{sum_by}
use Rattle.native_base.specs.Plan.{text_at}
use Rattle.dart_native.specs.Native.{units_in}
use Rattle.native_steps.proofs.steps.units_of_all.Given as goal

abbrev pub invariant-loop-value : goal.invariant-loop-value
invariant-loop-value l =
    (l.total ≤ l.value-index * 2 ^ 64)
    × (l.total + sum_by (λ x. units_in (text_at l.literals l.store x)) (drop l.value-index l.values) ≡ sum_by (λ x. units_in (text_at l.literals l.store x)) l.values)
